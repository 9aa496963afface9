use Rattle.std.proofs.Common.{◌≡◌, ◌-◌, ◌<◌, get_or, ap, ◌∙◌, arith}
use Rattle.ltlf.specs.Bits.{bit}
use Rattle.ltlf.proofs.Evaluating.{forecast_words, forecast_bit}
use Rattle.task.proofs.words.forecast.Stack+6.forecast.Goals as goal

pub returns : goal.returns
returns c n w e h =
    let low : n < 6 = omega arith in
    let is : c.args.self.now.top - 1 ≡ n = omega arith in
    ap (λ k. bit w (get_or forecast_words k 0)) is ∙ forecast_bit n w low h
