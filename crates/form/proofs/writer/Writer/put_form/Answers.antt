use Rattle.std.proofs.Common.{refl, append_assoc}
use Rattle.form.proofs.Put.{wrote_then, wrote_as, wrote_at}
use Rattle.form.proofs.writer.Writer.put_form.Goals as goal

pub returns : goal.returns
returns c =
    wrote_as (simp append_assoc) (wrote_then (wrote_then (wrote_then c.put_byte.ensures (wrote_at refl refl refl c.put_bytes.ensures)) c.put_numbers.ensures) c.put_byte-2.ensures)
