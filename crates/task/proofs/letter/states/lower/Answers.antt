use Rattle.std.proofs.Common.{arith}
use Rattle.task.proofs.Gather.{lower_bits}
use Rattle.task.proofs.letter.states.lower.Goals as goal

pub returns : goal.returns
returns c w h =
    let is = lower_bits c.args.earlier.now (omega arith) w c.args.n in
    let all = c.choose.ensures w h in
    let odd = c.choose-odd.ensures w h in
    let even = c.choose-even.ensures w h in
    let three = c.spread.ensures w h in
    let one = c.spread-2.ensures w h in
    let two = c.spread-3.ensures w h in
    let zero = c.spread-4.ensures w h in
    cc
