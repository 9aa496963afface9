use Rattle.std.proofs.Common.{◌≡◌, ◌+◌, ◌*◌, ◌≤◌}
use Rattle.best.specs.Relaxed.{Relaxed}
use Rattle.best.specs.Sweeps.{total}
use Rattle.best.proofs.relaxation.Relaxation.carry.Given as goal

abbrev pub invariant-loop-source : goal.invariant-loop-source
invariant-loop-source g l =
    let arcs = l.source-iterator in
    let o = g.K.Kind.order in
    record {
      same_node : arcs.node ≡ l.node;
      arcs_net : arcs.net ≡ l.initial.self.net;
      relaxed : Relaxed l.initial.self l.self;
      less : 2 * total o l.self.values.now + l.queue.count ≤ 2 * total o l.initial.self.values.now + l.initial.queue.count;
    }
