use Rattle.std.proofs.Common.{get_or, take, sym, ap, ◌∙◌, arith}
use Rattle.std.proofs.lemmas.List.{take_more}
use Rattle.form.specs.Forms.{written}
use Rattle.form.specs.Putting.{numbers_of}
use Rattle.form.proofs.Put.{wrote_then, wrote_as, numbers_more}
use Rattle.form.proofs.writer.Writer.put_numbers.Goals as goal

pub loop-n-preserved : goal.loop-n-preserved
loop-n-preserved c =
    let ns = c.args.numbers.now in
    let i = c.loop-n.n-index in
    let a = wrote_then c.put_byte.ensures c.put_number.ensures in
    wrote_as (numbers_more (take i ns) (get_or ns i 0) ∙ ap (λ x. written (numbers_of x)) (sym (take_more ns i 0 (omega arith))))
    (wrote_then c.loop-n.invariant a)
