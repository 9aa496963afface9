-- Pairs, the legs between them, and paths of legs, whatever a pair stands for.
use Rattle.std.specs.Prelude.{◌≡◌, ℕ, zero, suc, ◌+◌, max, Bool, true, List, [], ◌∷◌}

-- Pairs and legs are numbers: how many there are, which legs leave a pair, where one leads from there, and which pairs are goals.
pub record Land : Type 0 where
  pub pairs : ℕ
  pub legs : ℕ
  pub leaves : ℕ → ℕ → Bool
  pub to : ℕ → ℕ → ℕ
  pub goal : ℕ → Bool

-- A land and each leg's time today.
pub record Ground : Type 0 where
  pub land : Land
  pub time : ℕ → ℕ

-- The legs lead from pair p to pair q.
abbrev pub Path : Land → ℕ → List ℕ → ℕ → Type 0
Path L p [] q = p ≡ q
Path L p (l ∷ ls) q = (L.leaves p l ≡ true) × Path L (L.to p l) ls q

-- Some path, perhaps of no leg, leads from p to a goal.
abbrev pub Live : Land → ℕ → Type 0
Live L p = (ls : List ℕ) × (q : ℕ) × Path L p ls q × (L.goal q ≡ true)

-- What the legs take together.
abbrev pub cost : Ground → List ℕ → ℕ
cost G [] = 0
cost G (l ∷ ls) = G.time l + cost G ls

-- The longest time of the legs below n; 0 with no leg.
abbrev pub dearest : Ground → ℕ → ℕ
dearest G zero = 0
dearest G (suc n) = max (dearest G n) (G.time n)
