use Rattle.std.proofs.Common.{◌-◌, sym, arith}
use Rattle.std.specs.List.{range_with_len, flat_map}
use Rattle.std.proofs.lemmas.Option.{slice_get_past}
use Rattle.chart.specs.Bores.{leg_pair}
use Rattle.chart.specs.Kept.{length_pairs}
use Rattle.chart.proofs.Pairing.{leg_down_is, leg_up_is}
use Rattle.chart.proofs.bore.answers.BoreChart.leg.Goals as goal

pub returns-then-lower-self : goal.returns-then-lower-self
returns-then-lower-self c =
    let me = c.args.self.now in
    let long = length_pairs me.spacing.down me.spacing.up 0 (me.spacing.stations - 1) in
    sym (slice_get_past (flat_map (leg_pair me.spacing.down me.spacing.up) (range_with_len 0 (me.spacing.stations - 1))) c.args.number (omega arith))

pub returns-then-number-eq0 : goal.returns-then-number-eq0
returns-then-number-eq0 c =
    let me = c.args.self.now in
    sym (leg_down_is me.spacing.stations me.spacing.down me.spacing.up _ c.args.number (omega arith) (omega arith))

pub returns-else-number-eq0 : goal.returns-else-number-eq0
returns-else-number-eq0 c =
    let me = c.args.self.now in
    sym (leg_up_is me.spacing.stations me.spacing.down me.spacing.up _ c.args.number (omega arith) (omega arith))
