use Rattle.std.proofs.Common.{◌-◌, ◌≤◌, length}
use Rattle.ltlf.specs.Ltlf.{Ltlf}
use Rattle.ltlf.specs.Forecasts.{temporal}
use Rattle.task.specs.Acts.{ActsAll}
use Rattle.task.specs.Listed.{listed}
use Rattle.task.proofs.Tabulating.{Built}
use Rattle.task.proofs.tables.Tables.build.Given as goal

abbrev pub invariant-loop-q : goal.invariant-loop-q
invariant-loop-q l = (l.q ≤ 64) × ((f : Ltlf) → temporal f ≤ 6 → ActsAll f (length l.letters) l.letters
    → Built f (length l.letters) l.q (listed l.tables.numbered) l.tables.first l.tables.next)

abbrev pub decreases-loop-q : goal.decreases-loop-q
decreases-loop-q l = 64 - l.q
