-- The formula of a list of operators is the one that the grammar gives it.
use Rattle.std.proofs.Common.{◌≡◌, ℕ, List, [], ◌∷◌, ◌++◌, Some, None, Option, sym, refl, ap, ◌∙◌, subst, append_assoc, arith}
use Rattle.std.proofs.lemmas.List.{append-nil}
use Rattle.ltlf.specs.Ltlf.{Ltlf, top, mark, neg, conj, disj, next, weak, until, eventually, always}
use Rattle.ltlf.specs.declared.operator.Operator.{Operator}
use Rattle.ltlf.specs.declared.operator.Operator.TheVariants.{True, Mark, Not, And, Or, Next, Weak, Until, Eventually, Always}
use Rattle.ltlf.specs.Prefix.{over, over_two, made, made_of, formulas, only}
use Rattle.ltlf.specs.Grammar.{Writes, is_true, is_mark, is_not, is_and, is_or, is_next, is_weak, is_until, is_eventually, is_always}
use Rattle.ltlf.specs.Theorems.{ReadsGrammar}

-- what is written is read, with other operators after it
two_read : (o : Operator) (os ps rest : List Operator) (fs : List Ltlf)
    → formulas (os ++ (ps ++ rest)) ≡ Some fs → formulas (o ∷ ((os ++ ps) ++ rest)) ≡ made o fs
two_read o os ps rest fs e = ap (λ x. made_of o (formulas x)) (append_assoc os ps rest) ∙ ap (made_of o) e

written_read : {os : List Operator} {f : Ltlf} → Writes os f → (rest : List Operator) (fs : List Ltlf)
    → formulas rest ≡ Some fs → formulas (os ++ rest) ≡ Some (f ∷ fs)
written_read is_true rest fs e = ap (made_of True) e
written_read (is_mark m) rest fs e = ap (made_of (Mark m)) e
written_read (is_not w) rest fs e = ap (made_of Not) (written_read w rest fs e)
written_read (is_and {os} {ps} {f} {g} w v) rest fs e =
    two_read And os ps rest (f ∷ (g ∷ fs)) (written_read w (ps ++ rest) (g ∷ fs) (written_read v rest fs e))
written_read (is_or {os} {ps} {f} {g} w v) rest fs e =
    two_read Or os ps rest (f ∷ (g ∷ fs)) (written_read w (ps ++ rest) (g ∷ fs) (written_read v rest fs e))
written_read (is_next w) rest fs e = ap (made_of Next) (written_read w rest fs e)
written_read (is_weak w) rest fs e = ap (made_of Weak) (written_read w rest fs e)
written_read (is_until {os} {ps} {f} {g} w v) rest fs e =
    two_read Until os ps rest (f ∷ (g ∷ fs)) (written_read w (ps ++ rest) (g ∷ fs) (written_read v rest fs e))
written_read (is_eventually w) rest fs e = ap (made_of Eventually) (written_read w rest fs e)
written_read (is_always w) rest fs e = ap (made_of Always) (written_read w rest fs e)

-- what is read is written: the operators are those of each formula, one after the other
data Parts : List Operator → List Ltlf → Type 0 where
  none : Parts [] []
  more : {ps os : List Operator} {f : Ltlf} {fs : List Ltlf} → Writes ps f → Parts os fs → Parts (ps ++ os) (f ∷ fs)

not_none : (fs : List Ltlf) → None ≡ Some fs → ⊥
not_none fs e = let z : ◌≡◌ {A = ℕ} 0 1 = cc in omega arith

parts_same : (os : List Operator) (gs fs : List Ltlf) → Parts os gs → Some gs ≡ Some fs → Parts os fs
parts_same os gs fs ps e = let same : gs ≡ fs = cc in rw (sym same) ps

part_one : (o : Operator) (k : Ltlf → Ltlf) → ((ps : List Operator) (f : Ltlf) → Writes ps f → Writes (o ∷ ps) (k f))
    → {os : List Operator} {gs : List Ltlf} (fs : List Ltlf) → Parts os gs → over k gs ≡ Some fs → Parts (o ∷ os) fs
part_one o k writes fs none e = elim (not_none fs e) [ ]
part_one o k writes fs (more {ps} {os} {f} {fs = gs} w rest) e = parts_same (o ∷ (ps ++ os)) (k f ∷ gs) fs (more (writes ps f w) rest) e

part_two : (o : Operator) (k : Ltlf → Ltlf → Ltlf)
    → ((ps qs : List Operator) (f g : Ltlf) → Writes ps f → Writes qs g → Writes (o ∷ (ps ++ qs)) (k f g))
    → {os : List Operator} {gs : List Ltlf} (fs : List Ltlf) → Parts os gs → over_two k gs ≡ Some fs → Parts (o ∷ os) fs
part_two o k writes fs none e = elim (not_none fs e) [ ]
part_two o k writes fs (more w none) e = elim (not_none fs e) [ ]
part_two o k writes fs (more {ps} {f} w (more {ps = qs} {os} {f = g} {fs = gs} v rest)) e =
    let P : List Operator → Type 0 = λ x. Parts (o ∷ x) fs in
    subst P (append_assoc ps qs os)
    (parts_same (o ∷ ((ps ++ qs) ++ os)) (k f g ∷ gs) fs (more (writes ps qs f g w v) rest) e)

part_made : (o : Operator) (os : List Operator) (gs fs : List Ltlf) → Parts os gs → made o gs ≡ Some fs → Parts (o ∷ os) fs
part_made True os gs fs ps e = parts_same (True ∷ os) (top ∷ gs) fs (more is_true ps) e
part_made (Mark m) os gs fs ps e = parts_same (Mark m ∷ os) (mark m ∷ gs) fs (more (is_mark m) ps) e
part_made Not os gs fs ps e = part_one Not neg (λ qs f w. is_not w) fs ps e
part_made And os gs fs ps e = part_two And conj (λ qs rs f g w v. is_and w v) fs ps e
part_made Or os gs fs ps e = part_two Or disj (λ qs rs f g w v. is_or w v) fs ps e
part_made Next os gs fs ps e = part_one Next next (λ qs f w. is_next w) fs ps e
part_made Weak os gs fs ps e = part_one Weak weak (λ qs f w. is_weak w) fs ps e
part_made Until os gs fs ps e = part_two Until until (λ qs rs f g w v. is_until w v) fs ps e
part_made Eventually os gs fs ps e = part_one Eventually eventually (λ qs f w. is_eventually w) fs ps e
part_made Always os gs fs ps e = part_one Always always (λ qs f w. is_always w) fs ps e

parts_more : (o : Operator) (os : List Operator) (r : Option (List Ltlf)) → ((gs : List Ltlf) → r ≡ Some gs → Parts os gs)
    → (fs : List Ltlf) → made_of o r ≡ Some fs → Parts (o ∷ os) fs
parts_more o os None parts fs e = elim (not_none fs e) [ ]
parts_more o os (Some gs) parts fs e = part_made o os gs fs (parts gs refl) e

parts_read : (os : List Operator) (fs : List Ltlf) → formulas os ≡ Some fs → Parts os fs
parts_read [] fs e = parts_same [] [] fs none e
parts_read (o ∷ os) fs e = parts_more o os (formulas os) (parts_read os) fs e

-- where the formulas are only one
only_one : (r : Option (List Ltlf)) (f : Ltlf) → only r ≡ Some f → r ≡ Some (f ∷ [])
only_one None f e = cc
only_one (Some []) f e = cc
only_one (Some (g ∷ [])) f e = cc
only_one (Some (g ∷ (h ∷ fs))) f e = cc

part_only : {os : List Operator} {f : Ltlf} → Parts os (f ∷ []) → Writes os f
part_only (more {ps} w none) = rw append-nil w

pub reads_grammar : ReadsGrammar
reads_grammar os f = (
  λ e. part_only (parts_read os (f ∷ []) (only_one (formulas os) f e)),
  λ w. ap only (ap formulas (sym (append-nil os)) ∙ written_read w [] [] refl),
)
