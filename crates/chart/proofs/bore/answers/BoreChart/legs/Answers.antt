use Rattle.std.proofs.Common.{◌-◌, arith}
use Rattle.chart.specs.Kept.{length_pairs}
use Rattle.chart.proofs.bore.answers.BoreChart.legs.Goals as goal

pub returns : goal.returns
returns c = let me = c.args.self.now in omega (arith, length_pairs me.spacing.down me.spacing.up 0 (me.spacing.stations - 1))
