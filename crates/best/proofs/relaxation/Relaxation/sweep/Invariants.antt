use Rattle.best.specs.Relaxed.{Relaxed}
use Rattle.best.specs.Sweeps.{Outcome}
use Rattle.best.proofs.relaxation.Relaxation.sweep.Given as goal

abbrev pub invariant-loop-node : goal.invariant-loop-node
invariant-loop-node g l = record {
  relaxed : Relaxed l.initial.self l.self;
  outcome : Outcome g.K.Kind.order (g.N.Net.meaning l.initial.self.net.now) l.initial.self.values.now l.self.values.now l.node l.changed;
}
