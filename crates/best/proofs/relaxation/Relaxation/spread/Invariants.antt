use Rattle.std.proofs.Common.{◌+◌, ◌*◌}
use Rattle.best.specs.Relaxed.{Relaxed}
use Rattle.best.specs.Sweeps.{total}
use Rattle.best.proofs.relaxation.Relaxation.spread.Given as goal

abbrev pub invariant-loop-node : goal.invariant-loop-node
invariant-loop-node g l = Relaxed l.initial.self l.self

abbrev pub decreases-loop-node : goal.decreases-loop-node
decreases-loop-node g l = 2 * total g.K.Kind.order l.self.values.now + l.queue.count
