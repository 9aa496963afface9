use Rattle.best.proofs.Relaxing.{relaxed_then}
use Rattle.best.proofs.relaxation.Relaxation.spread.Goals as goal

pub loop-node-preserved-then-node-self : goal.loop-node-preserved-then-node-self
loop-node-preserved-then-node-self g c = relaxed_then c.loop-node.invariant c.carry.ensures.relaxed
