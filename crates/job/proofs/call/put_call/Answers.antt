use Rattle.std.proofs.Common.{rules}
use Rattle.form.proofs.Put.{wrote_then}
use Rattle.job.proofs.call.put_call.Goals as goal

pub returns : goal.returns
returns c = let p = (wrote_then c.put_call_form.ensures c.put_byte.ensures).puts in search rules
