-- What an evaluation holds.
use Rattle.std.specs.Prelude.{ℕ, List, drop}
use Rattle.task.specs.declared.words.Stack.{Stack}

-- the words so far, the last one's first
abbrev pub held : {N : ℕ} → Stack N → List ℕ
held s = drop s.top s.words
