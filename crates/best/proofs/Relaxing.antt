-- Relaxations one after the other.
use Rattle.best.specs.declared.kind.Kind.{Ghosts as KindGhosts}
use Rattle.best.specs.declared.net.Net.{Ghosts as NetGhosts}
use Rattle.best.specs.declared.relaxation.Relaxation.{Relaxation}
use Rattle.std.proofs.Common.{◌∙◌}
use Rattle.best.specs.Relaxed.{Relaxed}
use Rattle.best.proofs.Improving.{improves_then}

pub relaxed_then : {N K W V : Type 0} {net : NetGhosts N W} {kind : KindGhosts K V W} {r s t : Relaxation N K W V net kind} → Relaxed r s → Relaxed s t → Relaxed r t
relaxed_then p q = record {
  same_net = q.same_net ∙ p.same_net;
  same_reference = q.same_reference ∙ p.same_reference;
  improves = improves_then _ _ p.improves (rw p.same_net at q.improves);
}
