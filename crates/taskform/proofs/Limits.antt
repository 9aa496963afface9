-- The limits of gathered operators.
use Rattle.std.proofs.Common.{◌≡◌, ℕ, ◌+◌, ◌-◌, ◌^◌, ◌<◌, ◌≤◌, true, ◌&&◌, leb, ◌⊎◌, List, [], ◌∷◌, length, take, is_some, Some, None, Option, MatchOption, refl, ap, ◌∙◌, ⊎_elim, inl, inr, arith, Bor}
use Rattle.std.specs.List.{slice_range}
use Rattle.std.proofs.lemmas.List.{take_all}
use Rattle.std.proofs.lemmas.Bool.{and_parts, and_from, leb-true, ltb-true, le-leb, lt-ltb, lt-leb, cases_Bool}
use Rattle.ltlf.specs.Numbering.{states}
use Rattle.ltlf.specs.Prefix.{formula, meaning, temporals, mark_below, marks_below}
use Rattle.ltlf.specs.declared.operator.Operator.{Operator}
use Rattle.ltlf.specs.declared.operator.Operator.TheVariants.{True, Mark, Not, And, Or, Next, Weak, Until, Eventually, Always}
use Rattle.task.specs.Faults.{ask, task_fault}
use Rattle.task.specs.declared.fault.Fault.{Fault}
use Rattle.task.specs.declared.fault.Fault.TheVariants.{NotAFormula, OutOfRange, TooManyOperators, TooManyTemporal, TooManyStates}
use Rattle.taskform.specs.declared.gathered.Gathered.{Gathered}
use Rattle.taskform.specs.Gathering.{marks_for, marks_in, Holds}

mark_fits : (p : ℕ) (o : Operator) → mark_below p o ≡ true → marks_for o ≤ p
mark_fits p True e = omega arith
mark_fits p (Mark m) e = omega (arith, ltb-true m p e)
mark_fits p Not e = omega arith
mark_fits p And e = omega arith
mark_fits p Or e = omega arith
mark_fits p Next e = omega arith
mark_fits p Weak e = omega arith
mark_fits p Until e = omega arith
mark_fits p Eventually e = omega arith
mark_fits p Always e = omega arith

fits_mark : (p : ℕ) (o : Operator) → marks_for o ≤ p → mark_below p o ≡ true
fits_mark p True l = refl
fits_mark p (Mark m) l = lt-ltb m p (omega arith)
fits_mark p Not l = refl
fits_mark p And l = refl
fits_mark p Or l = refl
fits_mark p Next l = refl
fits_mark p Weak l = refl
fits_mark p Until l = refl
fits_mark p Eventually l = refl
fits_mark p Always l = refl

marks_fit : (p : ℕ) (os : List Operator) → marks_below p os ≡ true → marks_in os ≤ p
marks_fit p [] e = omega arith
marks_fit p (o ∷ os) e =
    let q = and_parts (mark_below p o) (marks_below p os) e in omega (arith, mark_fits p o q.0, marks_fit p os q.1)

fit_marks : (p : ℕ) (os : List Operator) → marks_in os ≤ p → marks_below p os ≡ true
fit_marks p [] l = refl
fit_marks p (o ∷ os) l = and_from (mark_below p o) (marks_below p os) (fits_mark p o (omega arith)) (fit_marks p os (omega arith))

module _ (p : ℕ) (os : List Operator) (one : is_some (formula os) ≡ true) where
  -- the questions after the first, which is answered yes
  later : Option Fault
  later = ask (leb (temporals os) 6) TooManyTemporal (ask (leb (length (states (meaning os) (2 ^ p))) 64) TooManyStates None)

  asked : task_fault p os ≡ ask ((leb 1 p && leb p 6) && marks_below p os) OutOfRange (ask (leb (length os) 64) TooManyOperators later)
  unfolding later
  asked = ap (λ b. ask b NotAFormula (ask ((leb 1 p && leb p 6) && marks_below p os) OutOfRange (ask (leb (length os) 64) TooManyOperators
      (ask (leb (temporals os) 6) TooManyTemporal (ask (leb (length (states (meaning os) (2 ^ p))) 64) TooManyStates None))))) one

  pub fault_range : ((1 ≤ p) × (p ≤ 6) × (marks_in os ≤ p) → ⊥) → task_fault p os ≡ Some OutOfRange
  fault_range n =
      elim (cases_Bool ((leb 1 p && leb p 6) && marks_below p os)) [
        | inl e ↦ (let q = and_parts (leb 1 p && leb p 6) (marks_below p os) e in
            let r = and_parts (leb 1 p) (leb p 6) q.0 in
            absurd (n (leb-true 1 p r.0, leb-true p 6 r.1, marks_fit p os q.1)))
        | inr e ↦ asked ∙ ap (λ b. ask b OutOfRange (ask (leb (length os) 64) TooManyOperators later)) e
      ]

  pub fault_size : 1 ≤ p → p ≤ 6 → marks_in os ≤ p → 64 < length os → task_fault p os ≡ Some TooManyOperators
  fault_size l h m k =
      asked
      ∙ (ap (λ b. ask b OutOfRange (ask (leb (length os) 64) TooManyOperators later))
      (and_from (leb 1 p && leb p 6) (marks_below p os) (and_from (leb 1 p) (leb p 6) (le-leb 1 p l) (le-leb p 6 h)) (fit_marks p os m))
      ∙ ap (λ b. ask b TooManyOperators later) (lt-leb (length os) 64 k))

-- operators that are not too many, and need few marks, are all kept
pub kept_all : (os : List Operator) (g : Gathered) → Holds os g → g.count ≤ 64 → marks_in os ≤ 256 → take g.count g.operators ≡ os
kept_all os g h l b = h.kept b ∙ take_all 64 os (omega (arith, h.count))

-- what `get` reads of the kept operators: all of them, if there are at most 64
pub read_all : (os : List Operator) (g : Gathered) (r : Option (Bor (List Operator))) → Holds os g → marks_in os ≤ 256
    → MatchOption r ((g.count < 0) ⊎ (length g.operators < g.count))
    (λ x. (0 ≤ g.count) × (g.count ≤ length g.operators) × (x.now ≡ slice_range g.operators 0 g.count) × (length x.now + 0 ≡ g.count))
    → MatchOption r (64 < length os) (λ kept. kept.now ≡ os)
read_all os g None h b past = ⊎_elim (λ (l : g.count < 0). omega arith) (λ (l : length g.operators < g.count). omega (arith, h.long, h.count)) past
read_all os g (Some x) h b (low, high, is, more) =
    is ∙ (ap (λ n. take n g.operators) (let z : g.count - 0 ≡ g.count = omega arith in z) ∙ kept_all os g h (omega (arith, h.long)) b)
