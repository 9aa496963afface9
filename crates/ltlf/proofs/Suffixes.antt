-- The formulas that the last operators of a list make, one operator more at a time.
use Rattle.std.proofs.Common.{◌≡◌, ℕ, suc, ◌+◌, ◌<◌, ◌≤◌, true, eqb, List, [], ◌∷◌, ◌++◌, length, is_some, Some, None, Option, sym, refl, ap, ◌∙◌, arith}
use Rattle.std.proofs.lemmas.Bool.{ne_eqb}
use Rattle.ltlf.specs.Ltlf.{Ltlf}
use Rattle.ltlf.specs.declared.operator.Operator.{Operator}
use Rattle.ltlf.specs.declared.operator.Operator.TheVariants.{True, Mark, Not, And, Or, Next, Weak, Until, Eventually, Always}
use Rattle.ltlf.specs.Operators.{operands}
use Rattle.ltlf.specs.Prefix.{over, over_two, made, made_of, formulas, only, or_top, formula, meaning}

-- an operator that has its operands makes one formula of them; one that lacks some makes none
pub record Made (o : Operator) (fs : List Ltlf) : Type 0 where
  pub result : List Ltlf
  pub is : made o fs ≡ Some result
  pub length_is : length result + operands o ≡ suc (length fs)

over_made : (k : Ltlf → Ltlf) (fs : List Ltlf) → 1 ≤ length fs → (gs : List Ltlf) × (over k fs ≡ Some gs) × (length gs + 1 ≡ suc (length fs))
over_made k [] h = let z : ⊥ = omega arith in absurd z
over_made k (f ∷ fs) h = (k f ∷ fs, refl, omega arith)

over_two_made : (k : Ltlf → Ltlf → Ltlf) (fs : List Ltlf) → 2 ≤ length fs → (gs : List Ltlf) × (over_two k fs ≡ Some gs) × (length gs + 2 ≡ suc (length fs))
over_two_made k [] h = let z : ⊥ = omega arith in absurd z
over_two_made k (f ∷ fs) h = let m = over_made (k f) fs (omega arith) in (m.0, m.1, omega (arith, m.2))

by : (o : Operator) (fs : List Ltlf) (n : ℕ) → operands o ≡ n → (gs : List Ltlf) × (made o fs ≡ Some gs) × (length gs + n ≡ suc (length fs)) → Made o fs
by o fs n e m = record { result = m.0; is = m.1; length_is = omega (arith, m.2) }

pub made_enough : (o : Operator) (fs : List Ltlf) → operands o ≤ length fs → Made o fs
made_enough True fs h = record { result = _; is = refl; length_is = omega arith }
made_enough (Mark m) fs h = record { result = _; is = refl; length_is = omega arith }
made_enough Not fs h = by Not fs 1 refl (over_made _ fs h)
made_enough And fs h = by And fs 2 refl (over_two_made _ fs h)
made_enough Or fs h = by Or fs 2 refl (over_two_made _ fs h)
made_enough Next fs h = by Next fs 1 refl (over_made _ fs h)
made_enough Weak fs h = by Weak fs 1 refl (over_made _ fs h)
made_enough Until fs h = by Until fs 2 refl (over_two_made _ fs h)
made_enough Eventually fs h = by Eventually fs 1 refl (over_made _ fs h)
made_enough Always fs h = by Always fs 1 refl (over_made _ fs h)

over_none : (k : Ltlf → Ltlf) (fs : List Ltlf) → length fs < 1 → over k fs ≡ None
over_none k [] h = refl
over_none k (f ∷ fs) h = let z : ⊥ = omega arith in absurd z

over_two_none : (k : Ltlf → Ltlf → Ltlf) (fs : List Ltlf) → length fs < 2 → over_two k fs ≡ None
over_two_none k [] h = refl
over_two_none k (f ∷ fs) h = over_none (k f) fs (omega arith)

pub made_short : (o : Operator) (fs : List Ltlf) → length fs < operands o → made o fs ≡ None
made_short True fs h = let z : ⊥ = omega arith in absurd z
made_short (Mark m) fs h = let z : ⊥ = omega arith in absurd z
made_short Not fs h = over_none _ fs h
made_short And fs h = over_two_none _ fs h
made_short Or fs h = over_two_none _ fs h
made_short Next fs h = over_none _ fs h
made_short Weak fs h = over_none _ fs h
made_short Until fs h = over_two_none _ fs h
made_short Eventually fs h = over_none _ fs h
made_short Always fs h = over_none _ fs h

-- where the last operators of a list make no formulas, the whole list makes none
pub none_after : (os ps : List Operator) → formulas ps ≡ None → formulas (os ++ ps) ≡ None
none_after [] ps e = e
none_after (o ∷ os) ps e = ap (made_of o) (none_after os ps e)

-- exactly one formula
pub only_one : (fs : List Ltlf) → is_some (only (Some fs)) ≡ eqb (length fs) 1
only_one [] = refl
only_one (f ∷ []) = refl
only_one (f ∷ (g ∷ fs)) = sym (ne_eqb _ _ (λ e. omega (arith, e)))

-- a list that is one formula, and what it makes from an operator on
some_known : (o : Option Ltlf) → is_some o ≡ true → (f : Ltlf) × (o ≡ Some f)
some_known None e = let z : ◌≡◌ {A = ℕ} 0 1 = cc in let w : ⊥ = omega arith in absurd w
some_known (Some f) e = (f, refl)

only_known : (o : Option (List Ltlf)) (f : Ltlf) → only o ≡ Some f → o ≡ Some (f ∷ [])
only_known None f e = let z : ◌≡◌ {A = ℕ} 0 1 = cc in let w : ⊥ = omega arith in absurd w
only_known (Some []) f e = let z : ◌≡◌ {A = ℕ} 0 1 = cc in let w : ⊥ = omega arith in absurd w
only_known (Some (g ∷ [])) f e = cc
only_known (Some (g ∷ (h ∷ fs))) f e = let z : ◌≡◌ {A = ℕ} 0 1 = cc in let w : ⊥ = omega arith in absurd w

pub formula_known : (os : List Operator) → is_some (formula os) ≡ true → formula os ≡ Some (meaning os)
formula_known os e =
    let k = some_known (formula os) e in
    k.1 ∙ sym (ap (λ o. Some (or_top o)) k.1)

pub formulas_known : (os : List Operator) → is_some (formula os) ≡ true → formulas os ≡ Some (meaning os ∷ [])
formulas_known os e = only_known (formulas os) (meaning os) (formula_known os e)

-- each of its ends makes formulas
pub end_known : (os ps : List Operator) (fs : List Ltlf) → formulas (os ++ ps) ≡ Some fs → (gs : List Ltlf) × (formulas ps ≡ Some gs)
end_known os ps fs e = option_known (formulas ps) (λ n. let z : ◌≡◌ {A = Option (List Ltlf)} None (Some fs) = sym (none_after os ps n) ∙ e in clash z)
  where
    clash : ◌≡◌ {A = Option (List Ltlf)} None (Some fs) → ⊥
    clash z = let y : ◌≡◌ {A = ℕ} 0 1 = cc in omega arith

    option_known : (o : Option (List Ltlf)) → (o ≡ None → ⊥) → (gs : List Ltlf) × (o ≡ Some gs)
    option_known None n = absurd (n refl)
    option_known (Some gs) n = (gs, refl)
