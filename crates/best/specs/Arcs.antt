-- The arcs of a node, one after the other.
use Rattle.std.specs.Prelude.{◌≡◌, ℕ, ◌+◌, Some, None, Option}
use Rattle.best.specs.Paths.{Meaning, Next}

-- from a number on the next arc was given, and it goes on after that arc's number; or there is none
abbrev pub Steps : {W : Type 0} → Meaning W → ℕ → ℕ → Option (ℕ × W) → ℕ → Type 0
Steps m u from None to = Next m u from None
Steps m u from (Some a) to = (k : ℕ) × (to ≡ k + 1) × Next m u from (Some (k, a.0, a.1))
