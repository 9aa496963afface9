use Rattle.form.proofs.Put.{wrote_then}
use Rattle.job.proofs.draft.writing.put_line.Goals as goal

pub returns : goal.returns
returns c = wrote_then c.put_form.ensures c.put_byte.ensures
