use Rattle.std.proofs.Common.{sym, ◌∙◌, arith, ltb-true}
use Rattle.best.proofs.Improving.{improves_then, carried}
use Rattle.best.proofs.relaxation.Relaxation.carry.Goals as goal

pub loop-source-preserved-then-better : goal.loop-source-preserved-then-better
loop-source-preserved-then-better g c =
    let i = c.loop-source.invariant in
    let step = c.in-Some.ensures.steps in
    let net = c.args.self.now.net.now in
    let h = carried g.K.Kind.order (g.N.Net.meaning net) (g.N.Net.reverse net) (g.N.Net.closed net) (g.N.Net.reverses net) (rw i.relaxed.same_net at c.loop-source.self.whole) c.requires
    (rw (i.arcs_net, i.same_node) at step.2) _ _ c.extend-via.ensures
    (ltb-true _ _ (sym c.better.ensures ∙ c.if-better.true)) in
    record {
      same_node = step.1 ∙ i.same_node;
      arcs_net = step.0 ∙ i.arcs_net;
      relaxed = record {
        same_net = i.relaxed.same_net;
        same_reference = i.relaxed.same_reference;
        improves = improves_then _ _ i.relaxed.improves h.0;
      };
      less = omega (arith, h.1, i.less, c.push.ensures);
    }
