use Rattle.std.proofs.Common.{codes, refl, arith}
use Rattle.form.proofs.Spelt.{spelt}
use Rattle.taskform.proofs.sort.sort_of.Goals as goal

pub returns-in-true : goal.returns-in-true
returns-in-true c = rw (spelt c.args.word.now (codes "true") (omega arith, (omega arith, (omega arith, (omega arith, omega arith))))) refl

pub returns-in-mark : goal.returns-in-mark
returns-in-mark c = rw (spelt c.args.word.now (codes "mark") (omega arith, (omega arith, (omega arith, (omega arith, omega arith))))) refl

pub returns-in-not : goal.returns-in-not
returns-in-not c = rw (spelt c.args.word.now (codes "not") (omega arith, (omega arith, (omega arith, omega arith)))) refl

pub returns-in-and : goal.returns-in-and
returns-in-and c = rw (spelt c.args.word.now (codes "and") (omega arith, (omega arith, (omega arith, omega arith)))) refl

pub returns-in-or : goal.returns-in-or
returns-in-or c = rw (spelt c.args.word.now (codes "or") (omega arith, (omega arith, omega arith))) refl

pub returns-in-next : goal.returns-in-next
returns-in-next c = rw (spelt c.args.word.now (codes "next") (omega arith, (omega arith, (omega arith, (omega arith, omega arith))))) refl

pub returns-in-weak : goal.returns-in-weak
returns-in-weak c = rw (spelt c.args.word.now (codes "weak") (omega arith, (omega arith, (omega arith, (omega arith, omega arith))))) refl

pub returns-in-until : goal.returns-in-until
returns-in-until c = rw (spelt c.args.word.now (codes "until") (omega arith, (omega arith, (omega arith, (omega arith, (omega arith, omega arith)))))) refl

pub returns-in-eventually : goal.returns-in-eventually
returns-in-eventually c = rw (spelt c.args.word.now (codes "eventually") (omega arith, (omega arith, (omega arith, (omega arith, (omega arith, (omega arith, (omega arith, (omega arith, (omega arith, (omega arith, omega arith))))))))))) refl

pub returns-in-always : goal.returns-in-always
returns-in-always c = rw (spelt c.args.word.now (codes "always") (omega arith, (omega arith, (omega arith, (omega arith, (omega arith, (omega arith, omega arith))))))) refl
