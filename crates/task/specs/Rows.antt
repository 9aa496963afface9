-- A table with a row for each state.
use Rattle.std.specs.Prelude.{ℕ, List, [], slice_index, slice_index_or}

-- the number in row q at letter a
abbrev pub entry : List (List ℕ) → ℕ → ℕ → ℕ
entry rows q a = slice_index (slice_index_or rows q []) a
