use Rattle.std.proofs.Common.{codes, refl, arith}
use Rattle.form.proofs.Spelt.{spelt}
use Rattle.job.proofs.line.head_of.Goals as goal

pub returns-in-leg : goal.returns-in-leg
returns-in-leg c = rw (spelt c.args.word.now (codes "leg") (omega arith, (omega arith, (omega arith, omega arith)))) refl

pub returns-in-label : goal.returns-in-label
returns-in-label c = rw (spelt c.args.word.now (codes "label") (omega arith, (omega arith, (omega arith, (omega arith, (omega arith, omega arith)))))) refl

pub returns-in-zone : goal.returns-in-zone
returns-in-zone c = rw (spelt c.args.word.now (codes "zone") (omega arith, (omega arith, (omega arith, (omega arith, omega arith))))) refl

pub returns-in-job : goal.returns-in-job
returns-in-job c = rw (spelt c.args.word.now (codes "job") (omega arith, (omega arith, (omega arith, omega arith)))) refl

pub returns-in-marks : goal.returns-in-marks
returns-in-marks c = rw (spelt c.args.word.now (codes "marks") (omega arith, (omega arith, (omega arith, (omega arith, (omega arith, omega arith)))))) refl

pub returns-in-stations : goal.returns-in-stations
returns-in-stations c = rw (spelt c.args.word.now (codes "stations") (omega arith, (omega arith, (omega arith, (omega arith, (omega arith, (omega arith, (omega arith, (omega arith, omega arith))))))))) refl

pub returns-in-bore : goal.returns-in-bore
returns-in-bore c = rw (spelt c.args.word.now (codes "bore") (omega arith, (omega arith, (omega arith, (omega arith, omega arith))))) refl

pub returns-in-task : goal.returns-in-task
returns-in-task c = rw (spelt c.args.word.now (codes "task") (omega arith, (omega arith, (omega arith, (omega arith, omega arith))))) refl

pub returns-in-start : goal.returns-in-start
returns-in-start c = rw (spelt c.args.word.now (codes "start") (omega arith, (omega arith, (omega arith, (omega arith, (omega arith, omega arith)))))) refl

pub returns-in-lookahead : goal.returns-in-lookahead
returns-in-lookahead c = rw (spelt c.args.word.now (codes "lookahead") (omega arith, (omega arith, (omega arith, (omega arith, (omega arith, (omega arith, (omega arith, (omega arith, (omega arith, omega arith)))))))))) refl
