use Rattle.std.proofs.Common.{◌∙◌, subst, rules}
use Rattle.best.specs.Paths.{IsBest}
use Rattle.best.proofs.Improving.{improves_then}
use Rattle.best.proofs.Settling.{is_best}
use Rattle.best.proofs.calls.best_of.Goals as goal

pub returns-clause-best : goal.returns-clause-best
returns-clause-best g c =
    let o = g.K.Kind.order in
    let m = g.N.Net.meaning c.args.net.now in
    let made = c.new-relaxation.ensures in
    let same_net = c.spread.ensures.same_net ∙ made.net in
    let improves = improves_then o m (rw (made.net, made.values) at c.spread.ensures.improves) (rw same_net at c.settle.ensures.relaxed.improves) in
    subst (IsBest o m c.args.values.now) (search rules)
    (is_best o m g.met.K.Kind.lawful (g.N.Net.closed c.args.net.now) c.args.values.now c.settle.new.self.values.now
    improves (rw same_net at c.settle.ensures.settled))
