use Rattle.best.specs.Relaxed.{Relaxed}
use Rattle.best.specs.Sweeps.{total}
use Rattle.best.proofs.relaxation.Relaxation.settle.Given as goal

abbrev pub invariant-loop : goal.invariant-loop
invariant-loop g l = Relaxed l.initial.self l.self

abbrev pub decreases-loop : goal.decreases-loop
decreases-loop g l = total g.K.Kind.order l.self.values.now
