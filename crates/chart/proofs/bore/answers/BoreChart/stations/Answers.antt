use Rattle.std.proofs.Common.{arith}
use Rattle.std.proofs.lemmas.List.FromFn.{length-map-range_with_len}
use Rattle.chart.specs.Bores.{zone_letter}
use Rattle.chart.proofs.bore.answers.BoreChart.stations.Goals as goal

pub returns : goal.returns
returns c = let me = c.args.self.now in omega (arith, length-map-range_with_len (zone_letter me.zones.now) 0 me.spacing.stations)
