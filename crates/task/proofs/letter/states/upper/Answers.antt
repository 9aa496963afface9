use Rattle.std.proofs.Common.{arith}
use lib.Bits.{bit_and}
use Rattle.ltlf.proofs.Words.{bit_and_is}
use Rattle.task.proofs.Gather.{upper_bits}
use Rattle.task.proofs.letter.states.upper.Goals as goal

pub returns : goal.returns
returns c w h =
    let low = bit_and c.same.result c.same-2.result in
    let high = bit_and c.same-3.result c.same-4.result in
    let is = upper_bits c.args.earlier.now (omega arith) w c.args.j c.requires.small in
    let all = bit_and_is w c.args.forecasts (bit_and low high) in
    let parts = bit_and_is w low high in
    let lows = bit_and_is w c.same.result c.same-2.result in
    let highs = bit_and_is w c.same-3.result c.same-4.result in
    let zero = c.same.ensures w h in
    let one = c.same-2.ensures w h in
    let two = c.same-3.ensures w h in
    let three = c.same-4.ensures w h in
    cc
