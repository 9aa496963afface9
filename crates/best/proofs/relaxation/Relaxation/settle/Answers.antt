use Rattle.best.proofs.Relaxing.{relaxed_then}
use Rattle.best.proofs.relaxation.Relaxation.settle.Goals as goal

pub loop-preserved : goal.loop-preserved
loop-preserved g c = relaxed_then c.loop.invariant c.sweep.ensures.relaxed
