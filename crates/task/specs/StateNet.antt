-- The net of the states: an arc for each letter, of weight 1.
use Rattle.std.specs.Prelude.{◌≡◌, ℕ, ◌<◌, Bool, true, false, cond, ◌&&◌, List, length, Some, None, Option, nat_lt, refl}
use Rattle.std.proofs.Common.{ap, arith}
use Rattle.task.specs.Rows.{entry}
use Rattle.best.specs.Paths.{Meaning, Closed, Reverses}

-- the arc of state q by letter a, from a table with a row for each state
abbrev pub letter_arc : ℕ → List (List ℕ) → ℕ → ℕ → Option (ℕ × ℕ)
letter_arc letters next q a = cond (nat_lt q (length next) && nat_lt a letters) (Some (entry next q a, 1)) None

abbrev pub state_net : ℕ → List (List ℕ) → Meaning ℕ
state_net letters next = record { nodes = length next; numbers = λ _. letters; arc = letter_arc letters next }

-- each state of the table is one of the states
abbrev pub Inside : ℕ → List (List ℕ) → Type 0
Inside letters next = (q a : ℕ) → (q < length next) × (a < letters) → entry next q a < length next

-- what an arc says
pub arc_is : (b : Bool) (to v w : ℕ) → cond {A = Option (ℕ × ℕ)} b (Some (to, 1)) None ≡ Some (v, w) → (b ≡ true) × (to ≡ v) × (w ≡ 1)
arc_is true to v w e =
    let p : ◌≡◌ {A = ℕ × ℕ} (to, 1) (v, w) = cc in
    (refl, ap (λ (t : ℕ × ℕ). t.0) p, omega (arith, ap (λ (t : ℕ × ℕ). t.1) p))
arc_is false to v w e = let z : ◌≡◌ {A = ℕ} 0 1 = cc in let none : ⊥ = omega arith in absurd none

pub state_closed : (letters : ℕ) (next : List (List ℕ)) → Inside letters next → Closed (state_net letters next)
state_closed letters next inside q a v w h l e =
    let p = arc_is (nat_lt q (length next) && nat_lt a letters) (entry next q a) v w e in
    omega (arith, inside q a (h, l), p.1)

-- no arcs the other way round are wanted
abbrev pub no_net : List (List ℕ) → Meaning ℕ
no_net next = record { nodes = length next; numbers = λ _. 0; arc = λ _ _. None }

pub none_reversed : (letters : ℕ) (next : List (List ℕ)) → Reverses (state_net letters next) (no_net next)
none_reversed letters next v k u w h l e = let none : ⊥ = omega arith in absurd none
