use Rattle.std.proofs.Common.{ap, arith}
use Rattle.form.proofs.Put.{wrote_then, wrote_as}
use Rattle.job.specs.Rows.{row_bytes}
use Rattle.job.proofs.Lines.{rows_more}
use Rattle.job.proofs.draft.writing.put_each.Goals as goal

pub loop-item-preserved : goal.loop-item-preserved
loop-item-preserved g c =
    let f = g.T.HasLine.as_row in
    let x = c.item-item.result in
    wrote_as (rows_more f c.args.items.now c.loop-item.item-index x (omega arith))
    (wrote_then c.loop-item.invariant (wrote_as (ap (λ y. row_bytes (f y)) c.item-item.is) c.put.ensures))
