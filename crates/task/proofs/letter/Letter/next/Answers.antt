use Rattle.std.proofs.Common.{◌≡◌, ◌*◌, ◌/◌, ◌^◌, ◌&&◌, ltb, get_or, ap, ◌∙◌, arith, rules}
use lib.Bits.{bit_and}
use Rattle.std.proofs.lemmas.Nat.{and_le_r, or_lt}
use Rattle.ltlf.specs.Bits.{bit}
use Rattle.ltlf.specs.Forecasts.{temporal, earlier}
use Rattle.task.proofs.Gather.{gather, gathered}
use Rattle.task.proofs.letter.Letter.next.Goals as goal

pub loop-j-preserved : goal.loop-j-preserved
loop-j-preserved c =
    let j = c.loop-j.j in
    let nibble = bit_and (c.args.state / 2 ^ (4 * j)) 15 in
    let low = get_or c.args.self.now.low nibble 0 in
    let high = get_or c.args.self.now.high j 0 in (
      or_lt 64 c.loop-j.next (bit_and low high) c.loop-j.invariant.0 (search rules),
      λ f a few acts w h.
          gather (ltb w (2 ^ temporal f)) w (earlier f a w) j c.args.state c.loop-j.next low high
          (c.loop-j.invariant.1 f a few acts w h)
          (acts.lower nibble w (omega (arith, and_le_r (c.args.state / 2 ^ (4 * j)) 15)) h)
          (acts.upper j w (omega arith) h),
    )

pub returns : goal.returns
returns c f a few acts =
    let end : c.loop-j.j ≡ 16 = omega arith in
    gathered f a few c.args.state c.loop-j.next c.loop-j.invariant.0
    (λ w h. c.loop-j.invariant.1 f a few acts w h
    ∙ ap (λ j. ltb w (2 ^ temporal f) && (ltb (earlier f a w / 4) j && bit (earlier f a w) c.args.state)) end)
