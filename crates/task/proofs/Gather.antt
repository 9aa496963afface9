-- The bits of a letter's tables, and of the state that is gathered from them.
use Rattle.std.proofs.Common.{◌≡◌, ℕ, zero, suc, ◌+◌, ◌-◌, ◌*◌, ◌/◌, ◌%◌, ◌^◌, ◌<◌, ◌≤◌, Bool, true, false, cond, not, ◌&&◌, ◌||◌, eqb, ltb, List, [], ◌∷◌, map, length, get_or, sym, refl, ap, ◌∙◌, arith, pow_mono}
use lib.Bits.{bit_and, bit_or}
use Rattle.std.proofs.lemmas.Nat.{shr-shr, and_le_l}
use Rattle.std.proofs.lemmas.List.{drop_more, drop_all}
use Rattle.std.proofs.lemmas.Bool.{lt-ltb, le-ltb, eq-eqb, and_left, and_right}
use Rattle.std.proofs.lemmas.Bool.Decides.{Decides-below_and, nat_tests}
use Rattle.ltlf.specs.Bits.{bit, number}
use Rattle.ltlf.specs.Ltlf.{Ltlf}
use Rattle.ltlf.specs.Forecasts.{temporal, truth, earlier_bits, earlier}
use Rattle.ltlf.specs.Automaton.{first, step}
use Rattle.ltlf.proofs.Packs.{bit_suc, number_lt}
use Rattle.ltlf.proofs.Right.{earlier_length}
use Rattle.ltlf.proofs.Words.{bit_and_is, bit_or_is, bit_not, packed}

-- one word's bits where another's are 1, and a third's elsewhere
chosen : (x a b : Bool) → ((x && a) || (not x && b)) ≡ cond x a b
chosen true true b = refl
chosen true false b = refl
chosen false a b = refl

pub choose_bits : (w x a b : ℕ) → w < 64 → x < 2 ^ 64
    → bit w (bit_or (bit_and x a) (bit_and (18446744073709551615 - x) b)) ≡ cond (bit w x) (bit w a) (bit w b)
choose_bits w x a b h l =
    let o = bit_or_is w (bit_and x a) (bit_and (18446744073709551615 - x) b) in
    let p = bit_and_is w x a in
    let q = bit_and_is w (18446744073709551615 - x) b in
    let n = bit_not w x h l in
    let k = chosen (bit w x) (bit w a) (bit w b) in
    cc

-- the words of the numbers below 2^t
abbrev forecasts_words : List ℕ
forecasts_words = 0x1 ∷ 0x3 ∷ 0xf ∷ 0xff ∷ 0xffff ∷ 0xffff_ffff ∷ 0xffff_ffff_ffff_ffff ∷ []

abbrev agree : Bool → Bool → Bool
agree true b = b
agree false b = not b

agree_same : (b c : Bool) → agree b c ≡ true → b ≡ c
agree_same true c e = sym e
agree_same false true e = e
agree_same false false e = refl

abbrev row_right : ℕ → ℕ → Bool
row_right t zero = true
row_right t (suc w) = agree (bit w (get_or forecasts_words t 0)) (ltb w (2 ^ t)) && row_right t w

abbrev rows_right : ℕ → Bool
rows_right zero = true
rows_right (suc t) = row_right t 64 && rows_right t

pub forecasts_bit : (t w : ℕ) → t < 7 → w < 64 → bit w (get_or forecasts_words t 0) ≡ ltb w (2 ^ t)
forecasts_bit t w h l =
    let row : row_right t 64 ≡ true
    = (Decides-below_and (λ t. row_right t 64) (λ t. row_right t 64 ≡ true) rows_right (λ t. (λ e. e, λ e. e)) refl (λ t. refl) 7).0 refl t h in
    agree_same _ _ ((Decides-below_and (λ w. agree (bit w (get_or forecasts_words t 0)) (ltb w (2 ^ t))) (λ w. agree (bit w (get_or forecasts_words t 0)) (ltb w (2 ^ t)) ≡ true)
    (row_right t) (λ w. (λ e. e, λ e. e)) refl (λ w. refl) 64).0 row w l)

-- a number's lowest bit and the rest of it
digit_eqb : (b : Bool) (x j : ℕ) → (cond (bit 0 j) b (not b) && eqb x (j / 2)) ≡ eqb (cond b 1 0 + 2 * x) j
digit_eqb true x j = grind (arith, nat_tests)
digit_eqb false x j = grind (arith, nat_tests)

regrouped : (p q r s t : Bool) → t ≡ true → ((p && q) && (r && s)) ≡ (p && (q && (r && (s && t))))
regrouped false q r s t e = refl
regrouped true false r s t e = refl
regrouped true true false s t e = refl
regrouped true true true false t e = refl
regrouped true true true true t e = sym e

four_eqb : (a b c d : Bool) (j : ℕ) → j < 16
    → ((cond (bit 0 j) a (not a) && cond (bit 1 j) b (not b)) && (cond (bit 2 j) c (not c) && cond (bit 3 j) d (not d)))
    ≡ eqb (number (a ∷ b ∷ c ∷ d ∷ [])) j
four_eqb a b c d j h =
    let one = bit_suc 0 j in
    let two = bit_suc 1 j ∙ bit_suc 0 (j / 2) in
    let three = bit_suc 2 j ∙ (bit_suc 1 (j / 2) ∙ bit_suc 0 (j / 2 / 2)) in
    let end : eqb 0 (j / 2 / 2 / 2 / 2) ≡ true = eq-eqb _ _ (omega arith) in
    let ea = digit_eqb a (number (b ∷ c ∷ d ∷ [])) j in
    let eb = digit_eqb b (number (c ∷ d ∷ [])) (j / 2) in
    let ec = digit_eqb c (number (d ∷ [])) (j / 2 / 2) in
    let ed = digit_eqb d 0 (j / 2 / 2 / 2) in
    let all = regrouped (cond (bit 0 j) a (not a)) (cond (bit 1 j) b (not b)) (cond (bit 2 j) c (not c)) (cond (bit 3 j) d (not d)) _ end in
    cc

two_bits : (a b : Bool) (r n : ℕ)
    → cond a (cond b (bit 3 n) (bit 1 n)) (cond b (bit 2 n) (bit 0 n)) ≡ bit ((cond a 1 0 + 2 * (cond b 1 0 + 2 * r)) % 4) n
two_bits true true r n = let e : (1 + 2 * (1 + 2 * r)) % 4 ≡ 3 = omega arith in ap (λ k. bit k n) (sym e)
two_bits true false r n = let e : (1 + 2 * (0 + 2 * r)) % 4 ≡ 1 = omega arith in ap (λ k. bit k n) (sym e)
two_bits false true r n = let e : (0 + 2 * (1 + 2 * r)) % 4 ≡ 2 = omega arith in ap (λ k. bit k n) (sym e)
two_bits false false r n = let e : (0 + 2 * (0 + 2 * r)) % 4 ≡ 0 = omega arith in ap (λ k. bit k n) (sym e)

past_two : (a b : Bool) (r : ℕ) → r ≡ (cond a 1 0 + 2 * (cond b 1 0 + 2 * r)) / 4
past_two true true r = omega arith
past_two true false r = omega arith
past_two false true r = omega arith
past_two false false r = omega arith

-- six words, of the six bits of a number for each w
module _ (es : List ℕ) (six : length es ≡ 6) where
  spelled : es ≡ get_or es 0 0 ∷ get_or es 1 0 ∷ get_or es 2 0 ∷ get_or es 3 0 ∷ get_or es 4 0 ∷ get_or es 5 0 ∷ []
  spelled =
      let a = drop_more es 0 0 (omega arith) in
      let b = drop_more es 1 0 (omega arith) in
      let c = drop_more es 2 0 (omega arith) in
      let d = drop_more es 3 0 (omega arith) in
      let e = drop_more es 4 0 (omega arith) in
      let f = drop_more es 5 0 (omega arith) in
      let g = drop_all 6 es (omega arith) in
      cc

  pub lower_bits : (w n : ℕ)
      → cond (bit w (get_or es 0 0)) (cond (bit w (get_or es 1 0)) (bit 3 n) (bit 1 n)) (cond (bit w (get_or es 1 0)) (bit 2 n) (bit 0 n))
      ≡ bit (number (map (bit w) es) % 4) n
  lower_bits w n =
      two_bits (bit w (get_or es 0 0)) (bit w (get_or es 1 0)) (number (map (bit w) (get_or es 2 0 ∷ get_or es 3 0 ∷ get_or es 4 0 ∷ get_or es 5 0 ∷ []))) n
      ∙ ap (λ xs. bit (number (map (bit w) xs) % 4) n) (sym spelled)

  -- the word at k has the bit of j
  abbrev agrees : ℕ → ℕ → ℕ → ℕ → Bool
  agrees w j k i = cond (bit i j) (bit w (get_or es k 0)) (not (bit w (get_or es k 0)))

  pub upper_bits : (w j : ℕ) → j < 16
      → ((agrees w j 2 0 && agrees w j 3 1) && (agrees w j 4 2 && agrees w j 5 3)) ≡ eqb (number (map (bit w) es) / 4) j
  upper_bits w j h =
      let rest : ℕ = number (map (bit w) (get_or es 2 0 ∷ get_or es 3 0 ∷ get_or es 4 0 ∷ get_or es 5 0 ∷ [])) in
      four_eqb (bit w (get_or es 2 0)) (bit w (get_or es 3 0)) (bit w (get_or es 4 0)) (bit w (get_or es 5 0)) j h
      ∙ (ap (λ x. eqb x j) (past_two (bit w (get_or es 0 0)) (bit w (get_or es 1 0)) rest)
      ∙ ap (λ xs. eqb (number (map (bit w) xs) / 4) j) (sym spelled))

-- a bit of a number, from its nibble
fifteen : (k : ℕ) → k < 4 → bit k 15 ≡ true
fifteen zero h = refl
fifteen (suc zero) h = refl
fifteen (suc (suc zero)) h = refl
fifteen (suc (suc (suc zero))) h = refl
fifteen (suc (suc (suc (suc k)))) h = let z : ⊥ = omega arith in elim z [ ]

and_true : (x y : Bool) → y ≡ true → (x && y) ≡ x
and_true true y e = e
and_true false y e = refl

nibble_bit : (e j s : ℕ) → e / 4 ≡ j → bit (e % 4) (bit_and (s / 2 ^ (4 * j)) 15) ≡ bit e s
nibble_bit e j s h =
    let at : 4 * j + e % 4 ≡ e = omega arith in
    bit_and_is (e % 4) (s / 2 ^ (4 * j)) 15
    ∙ (and_true _ _ (fifteen (e % 4) (omega arith)) ∙ ap (λ x. eqb (x % 2) 1) (shr-shr s (4 * j) (e % 4) ∙ ap (λ x. s / 2 ^ x) at))

-- one turn of the gathering, for one forecast
turn : (b c p : Bool) (e j : ℕ) → (e ≡ j → p ≡ c) → ((b && (ltb e j && c)) || (p && (b && eqb e j))) ≡ (b && (ltb e (j + 1) && c))
turn b c p e j h = grind (arith, nat_tests)

pub gather : (b : Bool) (w e j s next low high : ℕ) → bit w next ≡ (b && (ltb (e / 4) j && bit e s))
    → bit w low ≡ bit (e % 4) (bit_and (s / 2 ^ (4 * j)) 15) → bit w high ≡ (b && eqb (e / 4) j)
    → bit w (bit_or next (bit_and low high)) ≡ (b && (ltb (e / 4) (j + 1) && bit e s))
gather b w e j s next low high p q r =
    let o = bit_or_is w next (bit_and low high) in
    let a = bit_and_is w low high in
    let t = turn b (bit e s) (bit (e % 4) (bit_and (s / 2 ^ (4 * j)) 15)) (e / 4) j (λ h. nibble_bit e j s h) in
    cc

-- the state of all its forecasts
both_true : (x y z : Bool) → x ≡ true → y ≡ true → (x && (y && z)) ≡ z
both_true x y z p q = rw (p, q)

module _ (f : Ltlf) (a : ℕ) (few : temporal f ≤ 6) where
  few_forecasts : 2 ^ temporal f ≤ 64
  few_forecasts = pow_mono few

  earlier_lt : (w : ℕ) → earlier f a w < 64
  earlier_lt w = omega (arith, few_forecasts, number_lt (earlier_bits f 0 a w) (temporal f) (earlier_length f 0 a w))

  pub gathered : (s x : ℕ) → x < 2 ^ 64
      → ((w : ℕ) → w < 64 → bit w x ≡ (ltb w (2 ^ temporal f) && (ltb (earlier f a w / 4) 16 && bit (earlier f a w) s))) → x ≡ step f s a
  gathered s x l all =
      packed (2 ^ temporal f) x (λ w. bit (earlier f a w) s) few_forecasts l
      (λ k h. all k (omega (arith, few_forecasts)) ∙ both_true _ _ _ (lt-ltb _ _ h) (lt-ltb (earlier f a k / 4) 16 (omega (arith, earlier_lt k))))
      (λ k h b. all k b ∙ and_left _ _ (le-ltb _ _ h))

  pub started : (x y : ℕ) → x < 2 ^ 64 → ((w : ℕ) → w < 64 → bit w x ≡ truth f 0 a w)
      → ((w : ℕ) → w < 64 → bit w y ≡ ltb w (2 ^ temporal f)) → bit_and x y ≡ first f a
  started x y l xs ys =
      packed (2 ^ temporal f) (bit_and x y) (λ w. truth f 0 a w) few_forecasts (omega (arith, and_le_l x y))
      (λ k h. let b : k < 64 = omega (arith, few_forecasts) in
      bit_and_is k x y ∙ (and_true _ _ (ys k b ∙ lt-ltb _ _ h) ∙ xs k b))
      (λ k h b. bit_and_is k x y ∙ and_right _ _ (ys k b ∙ le-ltb _ _ h))
