use Rattle.std.proofs.Common.{◌≡◌, ℕ, ◌/◌, ◌%◌, ◌^◌, ◌<◌, ◌&&◌, eqb, ltb, map, sym, ap, ◌∙◌, arith}
use Rattle.ltlf.specs.Bits.{bit, number}
use Rattle.ltlf.specs.Forecasts.{temporal}
use Rattle.task.proofs.Gather.{started}
use Rattle.task.proofs.letter.Letter.new.Goals as goal

pub returns : goal.returns
returns c f a e truths earlies =
    let all = c.forecasts-all.result in
    let es = c.args.earlier.now in
    let known : (w : ℕ) → w < 64 → bit w all ≡ ltb w (2 ^ temporal f)
    = λ w h. c.forecasts-all.ensures w h ∙ ap (λ t. ltb w (2 ^ t)) (sym e) in
    record {
      start = started f a (omega arith) c.args.truth all (omega arith) truths known;
      lower = λ n w l h. c.lows.ensures n w l h ∙ ap (λ x. bit (x % 4) n) (earlies w h);
      upper = λ j w l h. c.highs.ensures j w l h
          ∙ (ap (λ b. b && eqb (number (map (bit w) es) / 4) j) (known w h)
          ∙ ap (λ x. ltb w (2 ^ temporal f) && eqb (x / 4) j) (earlies w h));
    }
