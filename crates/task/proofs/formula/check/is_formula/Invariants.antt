use Rattle.std.specs.Iterator.Adapters.{rev_source}
use Rattle.std.specs.Slice.Iter.{iter_rest}
use Rattle.task.proofs.Counting.{Counted}
use Rattle.task.proofs.formula.check.is_formula.Given as goal

abbrev pub invariant-loop-operator : goal.invariant-loop-operator
invariant-loop-operator l =
    (goal.iterator-loop-operator).can_next l.operator-iterator
    × (goal.iterator-loop-operator).is_finite l.operator-iterator
    × Counted l.operators (iter_rest (rev_source l.operator-iterator)) l.formulas
