use Rattle.std.proofs.Common.{sym, ◌∙◌, arith}
use Rattle.std.proofs.lemmas.Bool.{cond-false}
use Rattle.ltlf.proofs.Words.{bit_not}
use Rattle.task.proofs.letter.states.same.Goals as goal

pub returns-else-b : goal.returns-else-b
returns-else-b c w h = bit_not w c.args.word h (omega arith) ∙ sym (cond-false _ _ _ c.if-b.false)
