-- What a task is asked, and what its tables answer.
use Rattle.std.proofs.Common.{◌≡◌, ℕ, ◌+◌, ◌^◌, ◌<◌, ◌≤◌, Bool, true, false, cond, ◌&&◌, ltb, leb, List, [], ◌∷◌, length, get_or, take, get_or-take, length-take-le, is_some, Some, None, Decides, Option, sym, refl, ap, ◌∙◌, subst, arith, MatchOption}
use Rattle.std.proofs.lemmas.List.{take_more, take_all}
use Rattle.std.proofs.ByRecursion.{All-push, All-get_or}
use Rattle.std.proofs.lemmas.Bool.{le-leb, lt-leb, lt-ltb, ltb-true, and_parts, cond-true}
use Rattle.ltlf.specs.declared.operator.Operator.{Operator}
use Rattle.ltlf.specs.Grammar.{Writes}
use Rattle.ltlf.specs.Ltlf.{Ltlf, Satisfies}
use Rattle.ltlf.specs.Forecasts.{temporal}
use Rattle.ltlf.specs.Numbering.{states, first_number, next_number, accepts_number, number_after, accepts_by_number}
use Rattle.ltlf.specs.Prefix.{formula, meaning, marks_below, temporals}
use Rattle.ltlf.specs.Theorems.{LettersBelow}
use Rattle.ltlf.proofs.ByNumber.{accepts_by_number_right, next_known, number_push}
use Rattle.ltlf.proofs.Counts.{temporals_formula}
use Rattle.ltlf.proofs.Places.{front_length}
use Rattle.ltlf.proofs.Reading.{reads_grammar}
use Rattle.ltlf.proofs.Suffixes.{formula_known}
use Rattle.task.specs.declared.fault.Fault.{Fault}
use Rattle.task.specs.declared.fault.Fault.TheVariants.{NotAFormula, OutOfRange, TooManyOperators, TooManyTemporal, TooManyStates}
use Rattle.task.specs.declared.formula.Formula.{Formula}
use Rattle.task.specs.declared.letter.Letter.{Letter}
use Rattle.task.specs.declared.numbered.Numbered.{Numbered}
use Rattle.task.specs.declared.compiled.Task.{Task}
use Rattle.task.specs.Faults.{ask, formula_fault, task_fault}
use Rattle.task.specs.declared.tables.Tables.{Tables}
use Rattle.task.specs.Acts.{Acts, ActsAll}
use Rattle.task.specs.StateNet.{Inside}
use Rattle.task.specs.Tables.{Tabulates}
use Rattle.task.specs.Listed.{listed}
use Rattle.task.specs.Written.{written, formula_of}
use Rattle.task.specs.Compiled.{states_of, first_state, next_state, accepts_state}

-- the last question, once the others are answered
module _ (p : ℕ) (os : List Operator) (passed : (later : Option Fault) → formula_fault p os later ≡ later) where
  last : Option Fault
  last = ask (leb (length (states (meaning os) (2 ^ p))) 64) TooManyStates None

  pub many_states : 64 < length (states (meaning os) (2 ^ p)) → task_fault p os ≡ Some TooManyStates
  unfolding last
  many_states h = passed last ∙ ap (λ b. ask b TooManyStates None) (lt-leb (length (states (meaning os) (2 ^ p))) 64 h)

  pub few_states : length (states (meaning os) (2 ^ p)) ≤ 64 → task_fault p os ≡ None
  unfolding last
  few_states h = passed last ∙ ap (λ b. ask b TooManyStates None) (le-leb (length (states (meaning os) (2 ^ p))) 64 h)

-- what is a formula is not refused as none
asked : (a b c : Bool) → ask a OutOfRange (ask b TooManyOperators (ask c TooManyTemporal None)) ≡ Some NotAFormula → ⊥
asked true true true e = let z : ◌≡◌ {A = ℕ} 0 1 = cc in omega arith
asked true true false e = let z : ◌≡◌ {A = ℕ} 0 1 = cc in omega arith
asked true false c e = let z : ◌≡◌ {A = ℕ} 0 1 = cc in omega arith
asked false b c e = let z : ◌≡◌ {A = ℕ} 0 1 = cc in omega arith

pub no_formula : (p : ℕ) (os : List Operator) (d : Fault) → ((later : Option Fault) → formula_fault p os later ≡ Some d)
    → d ≡ NotAFormula → (f : Ltlf) → Writes os f → ⊥
no_formula p os d refused d_is f w =
    let one : is_some (formula os) ≡ true = ap is_some ((reads_grammar os f).1 w) in
    asked ((leb 1 p && leb p 6) && marks_below p os) (leb (length os) 64) (leb (temporals os) 6)
    (sym (ap (λ b. ask b NotAFormula (ask ((leb 1 p && leb p 6) && marks_below p os) OutOfRange (ask (leb (length os) 64) TooManyOperators (ask (leb (temporals os) 6) TooManyTemporal None)))) one)
    ∙ (refused None ∙ ap Some d_is))

-- a checked formula is written by its operators, and has at most six temporal operators
pub checked_writes : (f : Formula) → Writes (written f) (formula_of f)
checked_writes f = (reads_grammar (written f) (formula_of f)).0 (formula_known (written f) f.one)

pub checked_temporal : (f : Formula) → temporal (formula_of f) ≤ 6
checked_temporal f = omega (arith, temporals_formula (written f) (formula_of f) (formula_known (written f) f.one), f.counted, f.shallow)

-- a task has at most 64 states, and its list has as many as it counts
pub states_count : (t : Task) → length (states_of t) ≡ t.tables.numbered.count
states_count t =
    let m = t.tables.numbered in
    sym (ap length t.tabulated.lists) ∙ front_length 0 m.count m.states (omega (arith, m.fits, m.whole))

pub states_few : (t : Task) → length (states_of t) ≤ 64
states_few t = omega (arith, states_count t, t.tables.numbered.fits)

-- what was built from the letters of a checked formula
module _ (f : Formula) (n : ℕ) (ls : List Letter) (r : Option Tables) (n_is : n ≡ 2 ^ f.marks) (fits : n ≤ length ls)
    (acts : ActsAll (formula_of f) (2 ^ f.marks) ls)
    (built : (g : Ltlf) → temporal g ≤ 6 → ActsAll g (length (take n ls)) (take n ls)
    → MatchOption r (64 < length (states g (length (take n ls)))) (λ t. Tabulates g (length (take n ls)) t)) where
  many : length (take n ls) ≡ 2 ^ f.marks
  many = length-take-le n ls fits ∙ n_is

  here : MatchOption r (64 < length (states (formula_of f) (2 ^ f.marks))) (λ t. Tabulates (formula_of f) (2 ^ f.marks) t)
  here =
      let P : ℕ → Type 0 = λ k. MatchOption r (64 < length (states (formula_of f) k)) (λ t. Tabulates (formula_of f) k t) in
      subst P many (built (formula_of f) (checked_temporal f)
      (λ a d h. subst (Acts (formula_of f) a) (sym (get_or-take n ls a d (omega (arith, many, n_is)))) (acts a d (omega (arith, many)))))

  pub built_right : (t : Tables) → r ≡ Some t → Tabulates (formula_of f) (2 ^ f.marks) t
  built_right t e = rw e at here

  pub built_none : r ≡ None → 64 < length (states (formula_of f) (2 ^ f.marks))
  built_none e = rw e at here

-- the states of a formula that was checked are those of the operators that it was checked from
pub same_states : (f : Formula) (p : ℕ) (os : List Operator) → written f ≡ os → f.marks ≡ p
    → states (formula_of f) (2 ^ f.marks) ≡ states (meaning os) (2 ^ p)
same_states f p os os_is p_is = ap (λ x. states (meaning x) (2 ^ f.marks)) os_is ∙ ap (λ k. states (meaning os) (2 ^ k)) p_is

pub listed_few : (m : Numbered) (ss : List ℕ) → listed m ≡ ss → length ss ≤ 64
listed_few m ss e = omega (arith, ap length e, front_length 0 m.count m.states (omega (arith, m.fits, m.whole)), m.fits)

-- what an answer says, where there is one
cond_some : {A : Type 0} (b : Bool) (x y : A) → Some y ≡ cond b (Some x) None → (b ≡ true) × (y ≡ x)
cond_some true x y e = (refl, cc)
cond_some false x y e = let z : ◌≡◌ {A = ℕ} 0 1 = cc in let none : ⊥ = omega arith in absurd none

pub first_answer : (f : Ltlf) (n a q : ℕ) → Some q ≡ first_state f n a → (a < n) × (q ≡ first_number f n a)
first_answer f n a q e = let p = cond_some (ltb a n) (first_number f n a) q e in (ltb-true a n p.0, p.1)

pub next_answer : (f : Ltlf) (n q a p : ℕ) → Some p ≡ next_state f n q a → (a < n) × (p ≡ next_number f n q a)
next_answer f n q a p e =
    let h = cond_some (ltb q (length (states f n)) && ltb a n) (next_number f n q a) p e in
    (ltb-true a n (and_parts (ltb q (length (states f n))) (ltb a n) h.0).1, h.1)

pub accepts_answer : (f : Ltlf) (n q : ℕ) → q < length (states f n) → accepts_state f n q ≡ Some (accepts_number f n q)
accepts_answer f n q h = cond-true (ltb q (length (states f n))) (Some (accepts_number f n q)) None (lt-ltb q (length (states f n)) h)

-- the letters read so far, one more
module _ (f : Ltlf) (n q₀ : ℕ) (xs : List ℕ) (i q p : ℕ) (h : i < length xs) (at : q ≡ number_after f n q₀ (take i xs))
    (answer : Some p ≡ next_state f n q (get_or xs i 0)) where
  pub after_more : p ≡ number_after f n q₀ (take (i + 1) xs)
  after_more =
      (next_answer f n q (get_or xs i 0) p answer).1
      ∙ (ap (λ k. next_number f n k (get_or xs i 0)) at
      ∙ (sym (number_push f n q₀ (take i xs) (get_or xs i 0)) ∙ ap (number_after f n q₀) (sym (take_more xs i 0 h))))

  pub letters_more : LettersBelow n (take i xs) → LettersBelow n (take (i + 1) xs)
  letters_more below =
      subst (LettersBelow n) (sym (take_more xs i 0 h)) (All-push (λ a. a < n) (take i xs) (get_or xs i 0) below (next_answer f n q (get_or xs i 0) p answer).0)

-- the answer for all letters
pub whole_answer : (f : Ltlf) (n : ℕ) (letters xs : List ℕ) (a q₀ i q : ℕ) (r : Option Bool) → length (states f n) ≤ 64
    → letters ≡ a ∷ xs → Some q₀ ≡ first_state f n a → q ≡ number_after f n q₀ (take i xs) → length xs ≤ i → q < length (states f n)
    → LettersBelow n (take i xs) → r ≡ accepts_state f n q
    → MatchOption r (LettersBelow n letters → ⊥)
    (λ b. LettersBelow n letters × (b ≡ accepts_by_number f n letters) × Decides b (Satisfies letters f))
whole_answer f n letters xs a q₀ i q r few whole start at all known below r_is =
    let begin = first_answer f n a q₀ start in
    let each : LettersBelow n (a ∷ xs) = (begin.0, subst (LettersBelow n) (take_all i xs all) below) in
    let q_is : q ≡ number_after f n (first_number f n a) xs
    = at ∙ (ap (number_after f n q₀) (take_all i xs all) ∙ ap (λ k. number_after f n k xs) begin.1) in
    let is : r ≡ Some (accepts_by_number f n (a ∷ xs))
    = r_is ∙ (accepts_answer f n q known ∙ ap (λ k. Some (accepts_number f n k)) q_is) in
    let P : List ℕ → Type 0 = λ ys. MatchOption (Some (accepts_by_number f n ys)) (LettersBelow n ys → ⊥)
    (λ b. LettersBelow n ys × (b ≡ accepts_by_number f n ys) × Decides b (Satisfies ys f)) in
    let Q : Option Bool → Type 0 = λ o. MatchOption o (LettersBelow n letters → ⊥)
    (λ b. LettersBelow n letters × (b ≡ accepts_by_number f n letters) × Decides b (Satisfies letters f)) in
    subst Q (ap (λ ys. Some (accepts_by_number f n ys)) whole ∙ sym is)
    (subst P (sym whole) (each, refl, accepts_by_number_right f n few (a ∷ xs) each))

-- a letter that is too large, the first or a later one
pub first_not_below : (n : ℕ) (letters xs : List ℕ) (a : ℕ) → letters ≡ a ∷ xs → n ≤ a → LettersBelow n letters → ⊥
first_not_below n letters xs a whole large below = let each : LettersBelow n (a ∷ xs) = subst (LettersBelow n) whole below in omega (arith, each.0)

pub not_below : (n : ℕ) (letters xs : List ℕ) (a i : ℕ) → letters ≡ a ∷ xs → i < length xs → n ≤ get_or xs i 0 → LettersBelow n letters → ⊥
not_below n letters xs a i whole h large below =
    let each : LettersBelow n (a ∷ xs) = subst (LettersBelow n) whole below in
    omega (arith, All-get_or (λ x. x < n) xs i 0 h each.1)

-- the numbers in the table of next states are numbers of states
pub tables_inside : (f : Ltlf) (n : ℕ) (t : Tables) → Tabulates f n t → Inside n (take t.numbered.count t.next)
tables_inside f n t right q a h =
    let m = t.numbered in
    let many : length (states f n) ≡ m.count
    = sym (ap length right.lists) ∙ front_length 0 m.count m.states (omega (arith, m.fits, m.whole)) in
    let rows : length (take m.count t.next) ≡ m.count = length-take-le m.count t.next (omega (arith, m.fits, t.nexts)) in
    let same = ap (λ row. get_or row a 0) (get_or-take m.count t.next q [] (omega (arith, h.0, rows))) in
    omega (arith, same, rows, right.steps q a (omega (arith, h.0, rows)) h.1, next_known f n (omega (arith, many, m.fits)) q a (omega (arith, many, h.0, rows)) h.1, many)
