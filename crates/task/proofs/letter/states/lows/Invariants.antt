use Rattle.std.proofs.Common.{◌≡◌, ℕ, ◌%◌, ◌<◌, map, slice_index}
use Rattle.ltlf.specs.Bits.{bit, number}
use Rattle.task.proofs.letter.states.lows.Given as goal

abbrev pub invariant-loop-n : goal.invariant-loop-n
invariant-loop-n l = (k w : ℕ) → k < l.n → w < 64 → bit w (slice_index l.low-items k) ≡ bit (number (map (bit w) l.earlier) % 4) k
