use Rattle.std.proofs.Common.{◌≡◌, ◌<◌, length, get_or, subst, arith, rules}
use Rattle.ltlf.proofs.Meeting.{too_many}
use Rattle.task.specs.Listed.{listed}
use Rattle.task.specs.Tables.{Tabled}
use Rattle.task.proofs.Tabulating.{row_more}
use Rattle.task.proofs.tables.building.follow_each.Goals as goal

pub returns-in_err-row : goal.returns-in_err-row
returns-in_err-row g c h each =
    let a = c.loop-a.a in
    let is : c.after.result ≡ h a = each a c.after.result c.index-letters-a.result c.loop-a-test.true (record { shown = _; shows = c.index-letters-a.is; says = record { met = c.after.ensures } }) in
    rw c.from_residual.ensures
    (too_many h a (length c.args.letters.now) c.after.result (listed c.args.numbered.now) (listed c.loop-a.numbered) c.loop-a-test.true
    (c.loop-a.invariant h each).lists is c.in_err-row.ensures.0)

pub loop-a-preserved : goal.loop-a-preserved
loop-a-preserved g c h each =
    let a = c.loop-a.a in
    let is : c.after.result ≡ h a = each a c.after.result c.index-letters-a.result c.loop-a-test.true (record { shown = _; shows = c.index-letters-a.is; says = record { met = c.after.ensures } }) in
    let room : a < length c.loop-a.row = omega (arith, c.requires.few, c.loop-a-test.true, c.told-row) in
    row_more h a c.after.result c.in_ok-row.field-0 (listed c.args.numbered.now) (listed c.loop-a.numbered) (listed c.meet.new.self) c.loop-a.row
    is c.in_ok-row.ensures.1 c.in_ok-row.ensures.2 room (c.loop-a.invariant h each)

pub returns : goal.returns
returns g c h each =
    let end : c.loop-a.a ≡ length c.args.letters.now = search rules in
    subst (λ n. Tabled h n (listed c.args.numbered.now) (listed c.loop-a.numbered) (λ a. get_or c.loop-a.row a 0)) end (c.loop-a.invariant h each)
