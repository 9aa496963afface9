use Rattle.std.proofs.Common.{◌-◌, refl, ⊎_elim, arith}
use Rattle.chart.specs.Bores.{leg_down, leg_up}
use Rattle.chart.proofs.Pairing.{leg_down_is, leg_up_is, bore_leaves}
use Rattle.chart.proofs.bore.answers.BoreChart.leaving.Goals as goal
use Rattle.chart.proofs.bore.answers.BoreChart.leaving.Goals.{else-least-down-2-via-then-least-down-2+else-station-self-2, else-least-down-2-via-else-least-down-2}

pub returns-then-station-self : goal.returns-then-station-self
returns-then-station-self c k le w =
    let me = c.args.self.now in
    let s = c.args.station in
    ⊎_elim (λ d. omega (arith, d.1)) (λ u. omega (arith, u.1)) (bore_leaves me.spacing.stations me.spacing.down me.spacing.up me.zones.now s k w)

pub returns-then-least-down : goal.returns-then-least-down
returns-then-least-down c =
    let me = c.args.self.now in
    let s = c.args.station in (
      omega arith,
      (leg_up me.spacing.up (s - 1), leg_up_is me.spacing.stations me.spacing.down me.spacing.up (s - 1) _ (omega arith) (omega arith), omega arith),
      λ j le lt w. ⊎_elim (λ d. omega (arith, d.0)) (λ u. omega (arith, u.0)) (bore_leaves me.spacing.stations me.spacing.down me.spacing.up me.zones.now s j w),
    )

pub returns-then-station-self-2 : goal.returns-then-station-self-2
returns-then-station-self-2 c =
    let me = c.args.self.now in
    let s = c.args.station in (
      omega arith,
      (leg_down me.spacing.down s, leg_down_is me.spacing.stations me.spacing.down me.spacing.up s _ (omega arith) (omega arith), refl),
      λ j le lt w. omega arith,
    )

pub returns : goal.returns
returns c k le w =
    let me = c.args.self.now in
    ⊎_elim
    (λ d. elim c.else-least-down-2.branch [
      | else-least-down-2-via-then-least-down-2+else-station-self-2 v ↦ omega (arith, d.1, v.if-station-self-2.false)
      | else-least-down-2-via-else-least-down-2 v ↦ v.if-least-down-2.false (omega (arith, d.0))
    ])
    (λ u. omega (arith, u.0))
    (bore_leaves me.spacing.stations me.spacing.down me.spacing.up me.zones.now c.args.station k w)
