use Rattle.std.proofs.Common.{take}
use Rattle.form.specs.Putting.{Wrote}
use Rattle.form.proofs.writer.Writer.put_bytes.Given as goal

abbrev pub invariant-loop-b : goal.invariant-loop-b
invariant-loop-b l = Wrote (take l.b-index l.bytes) l.initial.self l.self
