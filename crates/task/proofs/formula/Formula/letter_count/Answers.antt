use Rattle.std.proofs.Common.{arith}
use Rattle.task.proofs.Acting.{letter_count}
use Rattle.task.proofs.formula.Formula.letter_count.Goals as goal

pub returns : goal.returns
returns c =
    let me = c.args.self.now in
    let many = letter_count me.marks 64 me.few (omega (arith, me.few)) in
    record { is = many.0; few = omega (arith, many.0, many.1) }
