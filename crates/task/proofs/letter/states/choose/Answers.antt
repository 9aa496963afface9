use Rattle.std.proofs.Common.{arith}
use Rattle.task.proofs.Gather.{choose_bits}
use Rattle.task.proofs.letter.states.choose.Goals as goal

pub returns : goal.returns
returns c w h = choose_bits w c.args.choice c.args.one c.args.other h (omega arith)
