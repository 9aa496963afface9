-- The scan of a table's legs for one that leaves a station.
use Rattle.std.proofs.Common.{◌≡◌, ℕ, ◌<◌, ◌≤◌, length, get_or, ap, ◌∙◌, ⊎_elim, arith, Some, None, Option}
use Rattle.std.specs.Option.{MatchOption}
use Rattle.std.proofs.lemmas.Option.{slice_get-get_or, slice_get_past}
use Rattle.std.proofs.lemmas.Bool.{cases_lt}
use Rattle.chart.specs.declared.leg.Leg.{Leg}
use Rattle.chart.specs.Chart.{Plan, Leaves, Leaving}

-- what stands where no leg does
abbrev pub no_leg : Leg
no_leg = record { from = 0; to = 0; seconds = 0 }

-- the leg read at k leaves the station
abbrev pub From : Plan → ℕ → ℕ → Type 0
From p s k = (get_or p.legs k no_leg).from ≡ s

leaves_below : (p : Plan) (s k : ℕ) → Leaves p s k → k < length p.legs
leaves_below p s k w = ⊎_elim (λ (lt : k < length p.legs). lt)
    (λ (le : length p.legs ≤ k). let past = slice_get_past p.legs k le in let at = w.1 in let z : ◌≡◌ {A = ℕ} 0 1 = cc in let none : ⊥ = omega arith in absurd none)
    (cases_lt k (length p.legs))

leaves_from : (p : Plan) (s k : ℕ) → Leaves p s k → From p s k
leaves_from p s k w =
    let here = slice_get-get_or p.legs k no_leg (leaves_below p s k w) in
    let at = w.1 in
    let leg : get_or p.legs k no_leg ≡ w.0 = cc in
    ap (λ (l : Leg). l.from) leg ∙ w.2

-- what is found by looking at each number from the least one on is the lowest
pub leaving_found : (p : Plan) (s least start end : ℕ) (r : Option ℕ) → start ≡ least → end ≡ length p.legs
    → MatchOption r ((k : ℕ) → start ≤ k → k < end → From p s k → ⊥)
    (λ k. (start ≤ k) × (k < end) × From p s k × ((j : ℕ) → start ≤ j → j < k → From p s j → ⊥))
    → Leaving p s least r
leaving_found p s least start end None first last none =
    λ k le w. let below = leaves_below p s k w in none k (omega arith) (omega arith) (leaves_from p s k w)
leaving_found p s least start end (Some k) first last (le, lt, from, before) =
    (omega arith, (get_or p.legs k no_leg, slice_get-get_or p.legs k no_leg (omega arith), from), λ j h i w. before j (omega arith) i (leaves_from p s j w))
