-- How many letters there are.
use Rattle.std.proofs.Common.{◌≡◌, ℕ, ◌*◌, ◌%◌, ◌^◌, ◌<◌, ◌≤◌, pow_mono}
use Rattle.std.proofs.lemmas.Nat.{one_shl}

-- at most 64 letters
pub letter_count : (p w : ℕ) → p ≤ 6 → p < w → ((1 * 2 ^ p) % 2 ^ w ≡ 2 ^ p) × (2 ^ p ≤ 64)
letter_count p w few h = (one_shl p w h, pow_mono few)
