use Rattle.std.specs.Iterator.Adapters.{rev_source}
use Rattle.std.specs.Slice.Iter.{iter_rest}
use Rattle.task.specs.Written.{written}
use Rattle.task.proofs.Evaluated.{Ends}
use Rattle.task.proofs.formula.Formula.ending.Given as goal

abbrev pub invariant-loop-operator : goal.invariant-loop-operator
invariant-loop-operator l =
    (goal.iterator-loop-operator).can_next l.operator-iterator
    × (goal.iterator-loop-operator).is_finite l.operator-iterator
    × Ends (written l.self) (iter_rest (rev_source l.operator-iterator)) l.end
