use Rattle.std.proofs.Common.{get_or, sym, ap, ◌∙◌, arith}
use lib.Bits.{bit_or}
use Rattle.std.proofs.lemmas.Nat.{one_shl}
use Rattle.std.proofs.lemmas.List.FromFn.{length-map-range_with_len, get_or-map-range_with_len}
use Rattle.std.proofs.lemmas.List.{get_or_past, at_drop_all}
use Rattle.chart.specs.Bores.{zone_letter}
use Rattle.chart.specs.Limits.{zone_sound}
use Rattle.chart.specs.Meanings.{bore_meaning}
use Rattle.chart.proofs.Marking.{gather, gather_more, gather_all, no_zone, zone_mark}
use Rattle.chart.proofs.Testing.{passes_at}
use Rattle.chart.proofs.bore.answers.BoreChart.letter.Goals as goal
use Rattle.chart.proofs.bore.answers.BoreChart.letter.Goals.{then-holds, else-holds}

pub returns-then-station-self : goal.returns-then-station-self
returns-then-station-self c =
    let me = c.args.self.now in
    sym (get_or_past (bore_meaning me).letters c.args.station 0 (omega (arith, length-map-range_with_len (zone_letter me.zones.now) 0 me.spacing.stations)))

pub loop-zone-preserved : goal.loop-zone-preserved
loop-zone-preserved c =
    let me = c.args.self.now in
    let i = c.loop-zone.zone-index in
    let z = get_or me.zones.now i no_zone in
    let low = zone_mark me.spacing.stations z (passes_at (zone_sound me.spacing.stations) me.zones.now i no_zone c.loop-zone-test.true me.sound) in
    elim c.if-holds.branch [
      | then-holds w ↦
          gather_more c.args.station c.loop-zone.letter _ me.zones.now i _ c.loop-zone-test.true (sym w.if-holds.ensures)
          (w.letter-is ∙ ap (bit_or c.loop-zone.letter) (one_shl z.mark 32 (omega arith)))
          ∙ c.loop-zone.invariant
      | else-holds w ↦
          gather_more c.args.station c.loop-zone.letter _ me.zones.now i _ c.loop-zone-test.true (sym w.if-holds.ensures) w.letter-is
          ∙ c.loop-zone.invariant
    ]

pub returns : goal.returns
returns c =
    let me = c.args.self.now in
    let s = c.args.station in
    sym (at_drop_all (gather s c.loop-zone.letter) me.zones.now c.loop-zone.zone-index c.loop-zone-test.false)
    ∙ (c.loop-zone.invariant
    ∙ (gather_all me.spacing.stations s me.zones.now me.sound
    ∙ sym (get_or-map-range_with_len (zone_letter me.zones.now) 0 me.spacing.stations s s 0 c.if-station-self.false (omega arith))))
