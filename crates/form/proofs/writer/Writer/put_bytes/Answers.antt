use Rattle.std.proofs.Common.{refl, sym, arith}
use Rattle.std.proofs.lemmas.List.{take_more}
use Rattle.form.proofs.Put.{wrote_then, wrote_as, wrote_at}
use Rattle.form.proofs.writer.Writer.put_bytes.Goals as goal

pub loop-b-preserved : goal.loop-b-preserved
loop-b-preserved c =
    wrote_as (sym (take_more c.args.bytes.now c.loop-b.b-index 0 (omega arith))) (wrote_then c.loop-b.invariant (wrote_at refl refl refl c.put_byte.ensures))
