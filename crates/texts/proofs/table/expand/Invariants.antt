use Rattle.std.proofs.Common.{length}
use Rattle.texts.proofs.table.expand.Given as goal

abbrev pub decreases-loop-b : goal.decreases-loop-b
decreases-loop-b l = length l.left
