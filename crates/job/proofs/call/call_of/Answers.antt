use Rattle.std.proofs.Common.{codes, refl, arith}
use Rattle.form.proofs.Spelt.{spelt}
use Rattle.job.proofs.call.call_of.Goals as goal

pub returns-in-decide-Zero : goal.returns-in-decide-Zero
returns-in-decide-Zero c = rw (c.in-decide-Zero.is-1, spelt c.args.form.head.now (codes "decide") (omega arith, (omega arith, (omega arith, (omega arith, (omega arith, (omega arith, omega arith))))))) refl
