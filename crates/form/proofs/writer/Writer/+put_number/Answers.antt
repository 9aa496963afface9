use Rattle.std.proofs.Common.{sym, arith}
use Rattle.std.proofs.lemmas.Fmt.{decimal_digit, decimal_step}
use Rattle.form.proofs.Put.{wrote_then, wrote_as}
use Rattle.form.proofs.writer.Writer.+put_number.Goals as goal

pub returns-then-n-lt10 : goal.returns-then-n-lt10
returns-then-n-lt10 t c = wrote_as (sym (decimal_digit c.args.n c.if-n-lt10.true)) c.put_byte.ensures

pub returns : goal.returns
returns t c = wrote_as (sym (decimal_step c.args.n c.if-n-lt10.false (omega arith))) (wrote_then c.put_number.ensures c.put_byte-2.ensures)
