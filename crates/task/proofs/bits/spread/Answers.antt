use Rattle.std.proofs.Common.{sym, ◌∙◌}
use Rattle.ltlf.proofs.Words.{bit_full}
use Rattle.task.proofs.bits.spread.Goals as goal

pub returns-then-b : goal.returns-then-b
returns-then-b c w h = bit_full w h ∙ sym c.if-b.true
