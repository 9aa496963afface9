-- The bits of the numbers that `pack` and `number` make.
use Rattle.std.proofs.Common.{◌≡◌, ℕ, zero, suc, ◌+◌, ◌-◌, ◌*◌, ◌/◌, ◌%◌, ◌^◌, ◌<◌, Bool, true, false, cond, eqb, List, [], ◌∷◌, ◌++◌, length, get_or, sym, refl, ap, ◌∙◌, inl, inr, mul_assoc, pow-suc, arith, pow_pos, pow-add, shr-shr}
use native.Mathlib.Nat.{mul-add-mod_self_right}
use lib.Pow.{high, field}
use Rattle.std.proofs.lemmas.Bool.{cases_lt, eq-eqb, ne_eqb}
use Rattle.ltlf.specs.Bits.{bit, pack, number}

-- a packed number of n bits is below 2 ^ n
top_lt : (b : Bool) (n r : ℕ) → r < 2 ^ n → cond b 1 0 * 2 ^ n + r < 2 ^ suc n
top_lt true n r h = omega (arith, pow-suc 2 n)
top_lt false n r h = omega (arith, pow-suc 2 n)

pub pack_lt : (n : ℕ) (p : ℕ → Bool) → pack n p < 2 ^ n
pack_lt zero p = omega arith
pack_lt (suc n) p = top_lt (p n) n (pack n p) (pack_lt n p)

-- bit k of a packed number
top_digit : (b : Bool) → eqb (cond b 1 0 % 2) 1 ≡ b
top_digit true = refl
top_digit false = refl

bit_top : (b : Bool) (n r : ℕ) → r < 2 ^ n → bit n (cond b 1 0 * 2 ^ n + r) ≡ b
bit_top b n r h = ap (λ x. eqb (x % 2) 1) (high (cond b 1 0) n h) ∙ top_digit b

bit_mod : (x k : ℕ) → bit k x ≡ eqb (x % 2 ^ (1 + k) / 2 ^ k) 1
bit_mod x k = ap (λ y. eqb y 1) (sym (field x 1 k))

low_mod : (c d m r : ℕ) → (c * (d * m) + r) % m ≡ r % m
low_mod c d m r = rw (← mul_assoc) (mul-add-mod_self_right (c * d) m r)

bit_low : (c n r k : ℕ) → k < n → bit k (c * 2 ^ n + r) ≡ bit k r
bit_low c n r k h =
    let d : ℕ = n - (1 + k) in
    let e : n ≡ d + (1 + k) = omega arith in
    let p : 2 ^ n ≡ 2 ^ d * 2 ^ (1 + k) = ap (λ x. 2 ^ x) e ∙ pow-add 2 d (1 + k) in
    let q : (c * 2 ^ n + r) % 2 ^ (1 + k) ≡ r % 2 ^ (1 + k)
    = ap (λ x. (c * x + r) % 2 ^ (1 + k)) p ∙ low_mod c (2 ^ d) (2 ^ (1 + k)) r in
    bit_mod (c * 2 ^ n + r) k ∙ (ap (λ x. eqb (x / 2 ^ k) 1) q ∙ sym (bit_mod r k))

pub bit_pack : (n : ℕ) (p : ℕ → Bool) (k : ℕ) → k < n → bit k (pack n p) ≡ p k
bit_pack zero p k h = let z : ⊥ = omega arith in elim z [ ]
bit_pack (suc n) p k h = elim (cases_lt k n) [
  | inl l ↦ bit_low (cond (p n) 1 0) n (pack n p) k l ∙ bit_pack n p k l
  | inr g ↦
      let e : k ≡ n = omega arith in
      rw e (bit_top (p n) n (pack n p) (pack_lt n p))
]

-- bit k of a number, from the lowest bit up
low_digit : (b : Bool) (x : ℕ) → eqb ((cond b 1 0 + 2 * x) % 2) 1 ≡ b
low_digit true x = eq-eqb _ _ (omega arith)
low_digit false x = ne_eqb _ _ (omega arith)

low_half : (b : Bool) (x : ℕ) → (cond b 1 0 + 2 * x) / 2 ≡ x
low_half true x = omega arith
low_half false x = omega arith

pub bit_zero : (n : ℕ) → bit 0 n ≡ eqb (n % 2) 1
bit_zero n = let e : n / 1 ≡ n = omega arith in ap (λ x. eqb (x % 2) 1) e

pub bit_suc : (k n : ℕ) → bit (suc k) n ≡ bit k (n / 2)
bit_suc k n =
    let e : 1 + k ≡ suc k = omega arith in
    let q : n / 2 / 2 ^ k ≡ n / 2 ^ suc k = shr-shr n 1 k ∙ ap (λ x. n / 2 ^ x) e in
    ap (λ x. eqb (x % 2) 1) (sym q)

pub bit_none : (k : ℕ) → bit k 0 ≡ false
bit_none zero = refl
bit_none (suc k) = bit_suc k 0 ∙ bit_none k

pub bit_number : (bs : List Bool) (k : ℕ) → bit k (number bs) ≡ get_or bs k false
bit_number [] k = bit_none k
bit_number (b ∷ bs) zero = bit_zero (number (b ∷ bs)) ∙ low_digit b (number bs)
bit_number (b ∷ bs) (suc k) =
    bit_suc k (number (b ∷ bs)) ∙ (ap (bit k) (low_half b (number bs)) ∙ bit_number bs k)

-- the number of m bits is below 2 ^ m
more_lt : (b : Bool) (m x : ℕ) → x < 2 ^ m → cond b 1 0 + 2 * x < 2 ^ suc m
more_lt true m x h = omega (arith, pow-suc 2 m)
more_lt false m x h = omega (arith, pow-suc 2 m)

pub number_lt : (bs : List Bool) (m : ℕ) → length bs ≡ m → number bs < 2 ^ m
number_lt [] m e = pow_pos m
number_lt (b ∷ bs) m e =
    let n : 2 ^ suc (length bs) ≡ 2 ^ m = ap (λ x. 2 ^ x) e in
    omega (arith, n, more_lt b (length bs) (number bs) (number_lt bs (length bs) refl))

-- the number of two lists of bits, one after the other
join_step : (c x y p q : ℕ) → q ≡ p * 2 → c + 2 * (x + y * p) ≡ c + 2 * x + y * q
join_step c x y p q e = rw e (omega (arith, mul_assoc y p 2))

pub number_append : (bs cs : List Bool) (m : ℕ) → length bs ≡ m → number (bs ++ cs) ≡ number bs + number cs * 2 ^ m
number_append [] cs m e = rw (← e) (omega arith)
number_append (b ∷ bs) cs m e =
    let q : 2 ^ m ≡ 2 ^ length bs * 2 = ap (λ x. 2 ^ x) (sym e) ∙ pow-suc 2 (length bs) in
    ap (λ x. cond b 1 0 + 2 * x) (number_append bs cs (length bs) refl)
    ∙ join_step (cond b 1 0) (number bs) (number cs) (2 ^ length bs) (2 ^ m) q
