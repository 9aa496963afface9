use Rattle.task.specs.Acts.{ActsAll}
use Rattle.task.specs.Written.{formula_of}
use Rattle.task.proofs.formula.Formula.letters.Given as goal

abbrev pub invariant-loop-a : goal.invariant-loop-a
invariant-loop-a l = ActsAll (formula_of l.self) l.a l.letter-items
