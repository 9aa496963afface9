use Rattle.std.proofs.Common.{sym, ◌∙◌, ltb-true}
use Rattle.best.proofs.Pulling.{taken}
use Rattle.best.proofs.relaxation.Relaxation.pull.Goals as goal

pub loop-to-preserved-then-better : goal.loop-to-preserved-then-better
loop-to-preserved-then-better g c =
    let i = c.loop-to.invariant in
    let step = c.in-Some.ensures.steps in
    record {
      same_net = step.0 ∙ i.same_net;
      same_node = step.1 ∙ i.same_node;
      so_far = taken (g.N.Net.closed c.args.self.now.net.now) c.args.self.now.whole c.requires i.so_far
          (rw (i.same_net, i.same_node) at step.2) _ c.extend-via.ensures
          (ltb-true _ _ (sym c.better.ensures ∙ c.if-better.true));
    }
