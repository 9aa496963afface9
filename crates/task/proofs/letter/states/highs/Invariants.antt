use Rattle.std.proofs.Common.{◌≡◌, ℕ, ◌/◌, ◌<◌, ◌&&◌, eqb, map, slice_index}
use Rattle.ltlf.specs.Bits.{bit, number}
use Rattle.task.proofs.letter.states.highs.Given as goal

abbrev pub invariant-loop-j : goal.invariant-loop-j
invariant-loop-j l =
    (k w : ℕ) → k < l.j → w < 64 → bit w (slice_index l.high-items k) ≡ (bit w l.forecasts && eqb (number (map (bit w) l.earlier) / 4) k)
