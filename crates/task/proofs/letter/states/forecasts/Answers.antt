use Rattle.std.proofs.Common.{arith}
use Rattle.task.proofs.Gather.{forecasts_bit}
use Rattle.task.proofs.letter.states.forecasts.Goals as goal

pub returns : goal.returns
returns c w h = forecasts_bit c.args.temporals w (omega arith) h
