use Rattle.std.proofs.Common.{append_assoc}
use Rattle.form.proofs.Put.{wrote_then, wrote_as}
use Rattle.job.proofs.draft.Draft.put_task_line.Goals as goal

pub returns : goal.returns
returns c = wrote_as (simp append_assoc) (wrote_then (wrote_then c.put_bytes.ensures c.put_task.ensures) c.put_bytes-2.ensures)
