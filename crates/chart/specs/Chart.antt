-- What a chart means: stations with letters, and the legs between them.
use Rattle.std.specs.Prelude.{◌≡◌, ℕ, ◌<◌, ◌≤◌, List, length, Some, None, Option}
use Rattle.std.specs.List.{slice_get}
use Rattle.chart.specs.declared.leg.Leg.{Leg}

-- the letter of each station and the legs, each at its number
pub record Plan : Type 0 where
  pub letters : List ℕ
  pub legs : List Leg

-- both ends of the leg are among n stations, and it takes 1 to 1,000 seconds
abbrev pub LegWithin : ℕ → Leg → Type 0
LegWithin n l = (l.from < n) × (l.to < n) × (1 ≤ l.seconds) × (l.seconds ≤ 1000)

-- the limits of a chart: 1 to 256 stations, at most 1,024 legs, and each leg within its own
pub record Within (p : Plan) : Type 0 where
  pub some : 1 ≤ length p.letters
  pub few : length p.letters ≤ 256
  pub short : length p.legs ≤ 1024
  pub sound : (k : ℕ) (l : Leg) → slice_get p.legs k ≡ Some l → LegWithin (length p.letters) l

-- k is the number of a leg, and that leg leaves station s
abbrev pub Leaves : Plan → ℕ → ℕ → Type 0
Leaves p s k = (l : Leg) × (slice_get p.legs k ≡ Some l) × (l.from ≡ s)

-- the lowest number, from the least one on, of a leg that leaves station s: it is such a number, and no lower one is;
-- none where there is no such number
abbrev pub Leaving : Plan → ℕ → ℕ → Option ℕ → Type 0
Leaving p s least None = (k : ℕ) → least ≤ k → Leaves p s k → ⊥
Leaving p s least (Some k) = (least ≤ k) × Leaves p s k × ((j : ℕ) → least ≤ j → j < k → Leaves p s j → ⊥)
