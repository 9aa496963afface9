use Rattle.std.proofs.Common.{◌≡◌, ℕ, ◌/◌, ◌^◌, ◌<◌, ◌≤◌, ◌&&◌, ltb}
use Rattle.ltlf.specs.Bits.{bit}
use Rattle.ltlf.specs.Ltlf.{Ltlf}
use Rattle.ltlf.specs.Forecasts.{temporal, earlier}
use Rattle.task.specs.Acts.{Acts}
use Rattle.task.proofs.letter.Letter.next.Given as goal

abbrev pub invariant-loop-j : goal.invariant-loop-j
invariant-loop-j l =
    (l.next < 2 ^ 64)
    × ((f : Ltlf) (a : ℕ) → temporal f ≤ 6 → Acts f a l.self → (w : ℕ) → w < 64
    → bit w l.next ≡ (ltb w (2 ^ temporal f) && (ltb (earlier f a w / 4) l.j && bit (earlier f a w) l.state)))
