-- A guide: a number for each pair.
use Rattle.std.specs.Prelude.{◌≡◌, ℕ, zero, suc, ◌+◌, ◌<◌, ◌≤◌, Bool, true, cond, not, List, length, sum_by, count_by, ◌==◌, slice_index_or}
use Rattle.law.specs.Grounds.{Ground, Live}

-- The mark of a pair that is not live.
abbrev pub dead : ℕ
dead = 4294967295

-- A guide's number at a pair.
abbrev pub at : List ℕ → ℕ → ℕ
at guide p = slice_index_or guide p dead

-- Whether a number is no dead mark.
abbrev pub live : ℕ → Bool
live n = not (n == dead)

-- How many pairs a guide has live.
abbrev pub lives : List ℕ → ℕ
lives guide = count_by live guide

-- The sum of a guide over the pairs that it has live.
abbrev pub total : List ℕ → ℕ
total guide = sum_by (λ n. cond (live n) n 0) guide

-- The sum of f over the numbers below n.
abbrev pub sum_to : (ℕ → ℕ) → ℕ → ℕ
sum_to f zero = 0
sum_to f (suc n) = sum_to f n + f n

-- The sum of the first guide over the pairs that this one has live.
abbrev pub over : List ℕ → List ℕ → ℕ
over guide first = sum_to (λ p. cond (live (at guide p)) (at first p) 0) (length guide)

-- A guide agrees with a ground: goals have 0, and a pair has at most a leg's time plus the number at the live pair that the leg
-- leads to.
pub record Agrees (G : Ground) (h : ℕ → ℕ) : Type 0 where
  pub goals : (p : ℕ) → p < G.land.pairs → G.land.goal p ≡ true → h p ≡ 0
  pub legs : (p l : ℕ) → p < G.land.pairs → G.land.leaves p l ≡ true → Live G.land (G.land.to p l)
      → h p ≤ G.time l + h (G.land.to p l)
