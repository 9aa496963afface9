use Rattle.std.proofs.Common.{◌≤◌, length, arith, rules}
use Rattle.ltlf.proofs.Places.{front_length}
use Rattle.ltlf.proofs.Meeting.{too_many_first, too_many_later}
use Rattle.task.specs.Listed.{listed}
use Rattle.task.proofs.Tabulating.{built_first, built_more, tabulates}
use Rattle.task.proofs.tables.Tables.build.Goals as goal

pub returns-in_err-tables : goal.returns-in_err-tables
returns-in_err-tables c f few acts =
    rw c.from_residual.ensures (too_many_first f (length c.args.letters.now) (c.in_err-tables.ensures f acts))

pub loop-q-init : goal.loop-q-init
loop-q-init c =
    let t = c.in_ok-tables.tables in
    (search rules, λ f few acts. built_first f (length c.args.letters.now) (listed t.numbered) t.first t.next (c.in_ok-tables.ensures f acts))

pub returns-in_err-follow : goal.returns-in_err-follow
returns-in_err-follow c f few acts =
    let m = c.loop-q.tables.numbered in
    let fits : m.count ≤ length m.states = search rules in
    let long = front_length 0 m.count m.states fits in
    rw c.from_residual-in_err-follow.ensures
    (too_many_later f (length c.args.letters.now) c.loop-q.q (listed m) (c.loop-q.invariant.1 f few acts).lists (omega (arith, long)) (omega arith)
    (c.in_err-follow.ensures.row f few acts))

pub loop-q-preserved : goal.loop-q-preserved
loop-q-preserved c =
    let t = c.loop-q.tables in
    let u = c.follow.new.self in
    let m = t.numbered in
    let fits : m.count ≤ length m.states = search rules in
    let long = front_length 0 m.count m.states fits in (
      omega arith,
      λ f few acts.
          let told = c.in_ok-follow.ensures in
          built_more f (length c.args.letters.now) c.loop-q.q (listed m) (listed u.numbered) t.first u.first t.next u.next
          (c.loop-q.invariant.1 f few acts) (omega (arith, long)) (told.row f few acts) told.starts told.before,
    )

pub returns : goal.returns
returns c f few acts =
    tabulates f (length c.args.letters.now) c.loop-q.q c.loop-q.tables (c.loop-q.invariant.1 f few acts) c.loop-q-test.false c.loop-q.invariant.0
