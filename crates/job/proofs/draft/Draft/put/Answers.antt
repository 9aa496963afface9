use Rattle.form.proofs.Put.{wrote_then, wrote_as}
use Rattle.job.specs.Holding.{contents}
use Rattle.job.proofs.Lines.{job_lines}
use Rattle.job.proofs.draft.Draft.put.Goals as goal

pub returns : goal.returns
returns c =
    let a = wrote_then c.put_line.ensures c.put_line-2.ensures in
    let b = wrote_then a c.put_chart.ensures in
    let d = wrote_then b c.put_task_line.ensures in
    let e = wrote_then d c.put_line-3.ensures in
    wrote_as (job_lines (contents c.args.self.now)) (wrote_then e c.put_line-4.ensures)
