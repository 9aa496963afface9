-- The bits of a word that is made of others by `&`, `|` and `!`, and words that are equal since their bits are.
use Rattle.std.proofs.Common.{◌≡◌, ℕ, zero, suc, ◌-◌, ◌/◌, ◌%◌, ◌^◌, ◌<◌, ◌≤◌, Bool, true, false, not, ◌&&◌, ◌||◌, eqb, ◌⊎◌, sym, refl, ap, ◌∙◌, inl, inr, mod-eq_of_lt, pow-suc, arith, pow_mono}
use native.Mathlib.Nat.{div-eq_of_lt}
use lib.Bits.{bit_and, bit_or, bit_xor, and_shr, or_shr, xor_shr, and_mod, or_mod, xor_mod, xor_add_and, and_mask}
use Rattle.std.proofs.lemmas.Nat.{mod_below}
use Rattle.std.proofs.lemmas.Bool.{cases_lt}
use Rattle.std.proofs.lemmas.Bool.Decides.{Decides-below_and}
use Rattle.ltlf.specs.Bits.{bit, pack}
use Rattle.ltlf.proofs.Packs.{bit_suc, bit_zero, bit_pack, pack_lt}

-- a digit is 0 or 1
digit : (x : ℕ) → (x % 2 ≡ 0) ⊎ (x % 2 ≡ 1)
digit x = elim (cases_lt (x % 2) 1) [ inl l ↦ inl (omega arith) | inr l ↦ inr (omega (arith, mod_below x 2 (omega arith))) ]

-- an operation that goes digit by digit, by its digit at k
module _ (op : ℕ → ℕ → ℕ) (on : Bool → Bool → Bool)
    (shr : (a b k : ℕ) → op a b / 2 ^ k ≡ op (a / 2 ^ k) (b / 2 ^ k))
    (low : (a b : ℕ) → op a b % 2 ≡ op (a % 2) (b % 2))
    (t00 : eqb (op 0 0) 1 ≡ on false false) (t01 : eqb (op 0 1) 1 ≡ on false true)
    (t10 : eqb (op 1 0) 1 ≡ on true false) (t11 : eqb (op 1 1) 1 ≡ on true true) where
  digits_op : (x y : ℕ) → eqb (op (x % 2) (y % 2)) 1 ≡ on (eqb (x % 2) 1) (eqb (y % 2) 1)
  digits_op x y = elim (digit x) [
    | inl p ↦ elim (digit y) [ inl q ↦ rw (p, q) t00 | inr q ↦ rw (p, q) t01 ]
    | inr p ↦ elim (digit y) [ inl q ↦ rw (p, q) t10 | inr q ↦ rw (p, q) t11 ]
  ]

  bit_op : (k a b : ℕ) → bit k (op a b) ≡ on (bit k a) (bit k b)
  bit_op k a b =
      ap (λ x. eqb (x % 2) 1) (shr a b k)
      ∙ (ap (λ x. eqb x 1) (low (a / 2 ^ k) (b / 2 ^ k)) ∙ digits_op (a / 2 ^ k) (b / 2 ^ k))

pub bit_and_is : (k a b : ℕ) → bit k (bit_and a b) ≡ (bit k a && bit k b)
bit_and_is k a b = bit_op bit_and ◌&&◌ and_shr (λ a b. and_mod a b 1) refl refl refl refl k a b

pub bit_or_is : (k a b : ℕ) → bit k (bit_or a b) ≡ (bit k a || bit k b)
bit_or_is k a b = bit_op bit_or ◌||◌ or_shr (λ a b. or_mod a b 1) refl refl refl refl k a b

abbrev differ : Bool → Bool → Bool
differ true b = not b
differ false b = b

differ_true : (b : Bool) → differ b true ≡ not b
differ_true true = refl
differ_true false = refl

bit_xor_is : (k a b : ℕ) → bit k (bit_xor a b) ≡ differ (bit k a) (bit k b)
bit_xor_is k a b = bit_op bit_xor differ xor_shr (λ a b. xor_mod a b 1) refl refl refl refl k a b

-- every bit of the largest word is 1
abbrev full_below : ℕ → Bool
full_below zero = true
full_below (suc n) = bit n (2 ^ 64 - 1) && full_below n

pub bit_full : (k : ℕ) → k < 64 → bit k 18446744073709551615 ≡ true
bit_full k h =
    (Decides-below_and (λ n. bit n (2 ^ 64 - 1)) (λ n. bit n (2 ^ 64 - 1) ≡ true) full_below (λ n. (λ e. e, λ e. e)) refl (λ n. refl) 64).0 refl k h

-- `!x`
pub bit_not : (k x : ℕ) → k < 64 → x < 2 ^ 64 → bit k (18446744073709551615 - x) ≡ not (bit k x)
bit_not k x h l =
    let m : bit_and x 18446744073709551615 ≡ x = and_mask x 64 ∙ mod-eq_of_lt l in
    let e : 18446744073709551615 - x ≡ bit_xor x 18446744073709551615 = omega (arith, xor_add_and x 18446744073709551615, m) in
    ap (bit k) e ∙ (bit_xor_is k x 18446744073709551615 ∙ (ap (differ (bit k x)) (bit_full k h) ∙ differ_true (bit k x)))

-- a bit past the top is 0
pub bit_past : (k n x : ℕ) → n ≤ k → x < 2 ^ n → bit k x ≡ false
bit_past k n x h l =
    let m : 2 ^ n ≤ 2 ^ k = pow_mono h in
    let low : x < 2 ^ k = omega arith in
    ap (λ y. eqb (y % 2) 1) (div-eq_of_lt low)

-- two words with the same bits are equal
eqb_digit : (x y : ℕ) → eqb (x % 2) 1 ≡ eqb (y % 2) 1 → x % 2 ≡ y % 2
eqb_digit x y e = elim (digit x) [
  | inl p ↦ elim (digit y) [
    | inl q ↦ omega arith
    | inr q ↦ (let z : ◌≡◌ {A = Bool} false true = ap (λ v. eqb v 1) (sym p) ∙ (e ∙ ap (λ v. eqb v 1) q) in cc)
  ]
  | inr p ↦ elim (digit y) [
    | inl q ↦ (let z : ◌≡◌ {A = Bool} true false = ap (λ v. eqb v 1) (sym p) ∙ (e ∙ ap (λ v. eqb v 1) q) in cc)
    | inr q ↦ omega arith
  ]
]

pub same_bits : (n x y : ℕ) → x < 2 ^ n → y < 2 ^ n → ((k : ℕ) → k < n → bit k x ≡ bit k y) → x ≡ y
same_bits zero x y h l same = omega arith
same_bits (suc n) x y h l same =
    let d : x % 2 ≡ y % 2 = eqb_digit x y (sym (bit_zero x) ∙ (same 0 (omega arith) ∙ bit_zero y)) in
    let p = pow-suc 2 n in
    let halves : x / 2 ≡ y / 2
    = same_bits n (x / 2) (y / 2) (omega arith) (omega arith) (λ k m. sym (bit_suc k x) ∙ (same (suc k) (omega arith) ∙ bit_suc k y)) in
    omega arith

-- a word below 2^64 is the packed one if it has its bits and none above
pub packed : (m x : ℕ) (p : ℕ → Bool) → m ≤ 64 → x < 2 ^ 64
    → ((k : ℕ) → k < m → bit k x ≡ p k) → ((k : ℕ) → m ≤ k → k < 64 → bit k x ≡ false) → x ≡ pack m p
packed m x p h l low high =
    let mono : 2 ^ m ≤ 2 ^ 64 = pow_mono h in
    same_bits 64 x (pack m p) l (omega (arith, pack_lt m p)) (λ k b. elim (cases_lt k m) [
      | inl i ↦ low k i ∙ sym (bit_pack m p k i)
      | inr o ↦ high k o b ∙ sym (bit_past k m (pack m p) o (pack_lt m p))
    ])
