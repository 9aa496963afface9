use Rattle.std.proofs.Common.{◌≡◌, drop}
use Rattle.chart.proofs.Marking.{gather}
use Rattle.chart.proofs.bore.answers.BoreChart.letter.Given as goal

abbrev pub invariant-loop-zone : goal.invariant-loop-zone
invariant-loop-zone l = gather l.station l.letter (drop l.zone-index l.self.zones.now) ≡ gather l.station 0 l.self.zones.now
