use Rattle.std.proofs.Common.{◌≡◌}
use Rattle.best.proofs.Pulling.{SoFar}
use Rattle.best.proofs.relaxation.Relaxation.pull.Given as goal

abbrev pub invariant-loop-to : goal.invariant-loop-to
invariant-loop-to g l =
    let arcs = l.to-iterator in
    let net = l.self.net in
    record {
      same_net : arcs.net ≡ net;
      same_node : arcs.node ≡ l.node;
      so_far : SoFar g.K.Kind.order (g.N.Net.meaning net.now) l.self.values.now l.node arcs.from l.least l.found;
    }
