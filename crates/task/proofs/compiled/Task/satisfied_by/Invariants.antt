use Rattle.std.proofs.Common.{◌≡◌, ◌<◌, length, take}
use Rattle.ltlf.specs.Numbering.{number_after}
use Rattle.ltlf.specs.Theorems.{LettersBelow}
use Rattle.task.specs.Compiled.{task_formula, letters_of, states_of}
use Rattle.task.proofs.compiled.Task.satisfied_by.Given as goal

abbrev pub invariant-loop-letter : goal.invariant-loop-letter
invariant-loop-letter l =
    (l.state ≡ number_after (task_formula l.self) (letters_of l.self) l.initial.state (take l.letter-index l.rest))
    × (l.state < length (states_of l.self)) × LettersBelow (letters_of l.self) (take l.letter-index l.rest)
