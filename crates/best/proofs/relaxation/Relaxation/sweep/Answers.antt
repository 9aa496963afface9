use Rattle.std.proofs.Common.{arith}
use Rattle.best.proofs.Improving.{improves_then, improves_write}
use Rattle.best.proofs.Sweeping.{write}
use Rattle.best.proofs.relaxation.Relaxation.sweep.Goals as goal

pub loop-node-preserved-in-Some : goal.loop-node-preserved-in-Some
loop-node-preserved-in-Some g c =
    let i = c.loop-node.invariant in
    let better = rw i.relaxed.same_net at c.in-Some.ensures in
    record {
      relaxed = record {
        same_net = i.relaxed.same_net;
        same_reference = i.relaxed.same_reference;
        improves = improves_then _ _ i.relaxed.improves (improves_write _ _ (g.N.Net.closed c.args.self.now.net.now) _ _ _ (omega arith) (omega arith) better.less better.via);
      };
      outcome = write g.K.Kind.order _ _ _ _ _ _ _ (omega arith) i.outcome better.less;
    }
