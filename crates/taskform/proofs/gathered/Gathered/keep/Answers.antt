use Rattle.std.proofs.Common.{◌≡◌, ◌+◌, min}
use Rattle.taskform.proofs.Held.{held_more, held_over}
use Rattle.taskform.proofs.gathered.Gathered.keep.Goals.{then-self-lt64, else-self-lt64}
use Rattle.taskform.proofs.gathered.Gathered.keep.Goals as goal

pub returns : goal.returns
returns c os o h e s =
    let me = c.args.self.now in
    elim c.if-self-lt64.branch [
      | then-self-lt64 w ↦
          let counted : c.saturating_add-self.result ≡ min (me.count + 1) 18446744073709551615 = rw w.self-is at c.saturating_add-self.ensures in
          rw w.self-is (held_more os me h o c.args.operator c.args.marks _ e s c.max-self.ensures _ counted w.if-self-lt64.true)
      | else-self-lt64 w ↦
          let counted : c.saturating_add-self.result ≡ min (me.count + 1) 18446744073709551615 = rw w.self-is at c.saturating_add-self.ensures in
          rw w.self-is (held_over os me h o c.args.operator c.args.marks _ e s c.max-self.ensures _ counted w.if-self-lt64.false)
    ]
