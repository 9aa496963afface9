use Rattle.std.proofs.Common.{take}
use Rattle.form.specs.Forms.{written}
use Rattle.form.specs.Putting.{Wrote, numbers_of}
use Rattle.form.proofs.writer.Writer.put_numbers.Given as goal

abbrev pub invariant-loop-n : goal.invariant-loop-n
invariant-loop-n l = Wrote (written (numbers_of (take l.n-index l.numbers))) l.initial.self l.self
