use Rattle.std.proofs.Common.{sym, ◌∙◌, arith}
use Rattle.std.proofs.lemmas.Bool.{le-ltb}
use Rattle.ltlf.proofs.Words.{bit_past}
use Rattle.task.proofs.bits.bit_of.Goals as goal

pub returns-else-k-lt64 : goal.returns-else-k-lt64
returns-else-k-lt64 c =
    le-ltb c.args.k 64 c.if-k-lt64.false
    ∙ sym (bit_past c.args.k 64 c.args.number c.if-k-lt64.false (omega arith))
