-- Bits of a number, and the number made of given bits.
use Rattle.std.specs.Prelude.{ℕ, zero, suc, ◌+◌, ◌*◌, ◌/◌, ◌%◌, ◌^◌, Bool, cond, List, [], ◌∷◌, ◌==◌}

-- bit k of n, the one of weight 2^k
abbrev pub bit : ℕ → ℕ → Bool
bit k n = n / 2 ^ k % 2 == 1

-- the number below 2^n whose bit k is p k
abbrev pub pack : ℕ → (ℕ → Bool) → ℕ
pack zero p = 0
pack (suc n) p = cond (p n) 1 0 * 2 ^ n + pack n p

-- the number with these bits, the lowest first
abbrev pub number : List Bool → ℕ
number [] = 0
number (b ∷ bs) = cond b 1 0 + 2 * number bs
