-- Nets, their paths, and which values are best.
use Rattle.std.specs.Prelude.{◌≡◌, ℕ, ◌+◌, ◌^◌, ◌<◌, ◌≤◌, true, ◌⊎◌, List, [], ◌∷◌, length, Some, None, Option, slice_index_or}
use Rattle.best.specs.Kinds.{Order}

-- A net has numbered nodes. The arcs of node u have numbers below `numbers u`; a number has an arc (where it leads, and its weight) or none.
pub record Meaning (W : Type 0) : Type 0 where
  pub nodes : ℕ
  pub numbers : ℕ → ℕ
  pub arc : ℕ → ℕ → Option (ℕ × W)

-- no arc leads out of the net
abbrev pub Closed : {W : Type 0} → Meaning W → Type 0
Closed {W} m = (u k v : ℕ) (w : W) → u < m.nodes → k < m.numbers u → m.arc u k ≡ Some (v, w) → v < m.nodes

-- some arc leads from u to v, of weight w
abbrev pub Arc : {W : Type 0} → Meaning W → ℕ → ℕ → W → Type 0
Arc m u v w = (k : ℕ) × (k < m.numbers u) × (m.arc u k ≡ Some (v, w))

-- each arc of the reverse net is an arc of the net, the other way round
abbrev pub Reverses : {W : Type 0} → Meaning W → Meaning W → Type 0
Reverses {W} m r = (v k u : ℕ) (w : W) → v < m.nodes → k < r.numbers v → r.arc v k ≡ Some (u, w) → (u < m.nodes) × Arc m u v w

-- the arc of u with the lowest number from a given one on: its number, where it leads, and its weight
abbrev pub Next : {W : Type 0} → Meaning W → ℕ → ℕ → Option (ℕ × ℕ × W) → Type 0
Next m u from None = (j : ℕ) → from ≤ j → j < m.numbers u → m.arc u j ≡ None
Next m u from (Some t) =
    (from ≤ t.0) × (t.0 < m.numbers u) × (t.0 + 1 < 2 ^ 64) × (m.arc u t.0 ≡ Some (t.1, t.2))
    × ((j : ℕ) → from ≤ j → j < t.0 → m.arc u j ≡ None)

-- the steps lead from u to s: each says where its arc leads, and its weight
abbrev pub Path : {W : Type 0} → Meaning W → ℕ → List (ℕ × W) → ℕ → Type 0
Path m u [] s = u ≡ s
Path m u (e ∷ rest) s = Arc m u e.0 e.1 × Path m e.0 rest s

-- a value at the end of a path, extended backwards to its start
abbrev pub back : {V W : Type 0} → Order V W → List (ℕ × W) → V → V
back o [] v = v
back o (e ∷ rest) v = o.extended e.1 (back o rest v)

-- what stands at a node
abbrev pub at : {V W : Type 0} → Order V W → List V → ℕ → V
at o xs u = slice_index_or xs u o.none

-- some path leads from u to a seed that is better than none, and r is that seed's value at u
abbrev pub Reached : {V W : Type 0} → Order V W → Meaning W → List V → ℕ → V → Type 0
Reached {V} {W} o m seeds u r =
    (s : ℕ) × (path : List (ℕ × W)) × (s < m.nodes) × Path m u path s × (o.rank (at o seeds s) < o.rank o.none) × (r ≡ back o path (at o seeds s))

-- the results are the best values of the seeds: at each node the best, over all paths to a seed, of its value extended backwards
pub record IsBest {V W : Type 0} (o : Order V W) (m : Meaning W) (seeds results : List V) : Type 0 where
  pub long : length results ≡ length seeds
  -- a result is that of some path to a seed, or none
  pub reached : (u : ℕ) → u < m.nodes → o.proper (at o results u) ≡ true → (at o results u ≡ o.none) ⊎ Reached o m seeds u (at o results u)
  -- and no path gives a better one
  pub least : (u s : ℕ) (path : List (ℕ × W)) → u < m.nodes → Path m u path s → o.rank (at o results u) ≤ o.rank (back o path (at o seeds s))
