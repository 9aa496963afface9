-- What each method that changes a relaxation keeps.
use Rattle.std.specs.Prelude.{◌≡◌}
use Rattle.best.specs.Sweeps.{Improves}
use Rattle.best.specs.declared.kind.Kind.{Ghosts as KindGhosts}
use Rattle.best.specs.declared.net.Net.{Ghosts as NetGhosts}
use Rattle.best.specs.declared.relaxation.Relaxation.{Relaxation}

-- the values of r only got better in s; the net and the memory are the same
pub record Relaxed {N K W V : Type 0} {net : NetGhosts N W} {kind : KindGhosts K V W} (r s : Relaxation N K W V net kind) : Type 0 where
  pub same_net : s.net ≡ r.net
  pub same_reference : s.values.ghost_name ≡ r.values.ghost_name
  pub improves : Improves kind.order (net.meaning r.net.now) r.values.now s.values.now
