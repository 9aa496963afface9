-- The states that have a number.
use Rattle.std.specs.Prelude.{ℕ, List, take}
use Rattle.task.specs.declared.numbered.Numbered.{Numbered}

-- the states that have a number, each at its number
abbrev pub listed : Numbered → List ℕ
listed m = take m.count m.states
