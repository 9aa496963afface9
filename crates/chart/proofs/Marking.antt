-- The letter of a station, gathered zone by zone.
use Rattle.std.proofs.Common.{◌≡◌, ℕ, zero, suc, ◌+◌, ◌*◌, ◌^◌, ◌<◌, ◌≤◌, Bool, true, false, cond, ◌&&◌, ◌||◌, eqb, List, [], ◌∷◌, length, get_or, drop, sym, refl, ap, ◌∙◌, ⊎_elim, arith}
use lib.Bits.{bit_or, or_block, or_zero_r}
use Rattle.std.proofs.lemmas.Nat.{pow_pos, pow_below}
use Rattle.std.proofs.lemmas.List.{at_drop_more}
use Rattle.std.proofs.lemmas.Bool.{and_parts, ltb-true, eq-eqb, ne_eqb, cases_lt}
use Rattle.chart.specs.declared.leg.Zone.{Zone}
use Rattle.chart.specs.Limits.{zone_sound, zones_sound}
use Rattle.chart.specs.Bores.{in_zone, marked, bits}

-- the letter with the marks of the zones that hold the station
abbrev pub gather : ℕ → ℕ → List Zone → ℕ
gather s letter [] = letter
gather s letter (z ∷ zs) = gather s (cond (in_zone s z) (bit_or letter (2 ^ z.mark)) letter) zs

-- one bit more at the top
digit_below : (b : Bool) (w r : ℕ) → r < w → cond b 1 0 * w + r < 2 * w
digit_below true w r h = omega arith
digit_below false w r h = omega arith

bits_below : (n : ℕ) (p : ℕ → Bool) → bits n p < 2 ^ n
bits_below zero p = omega arith
bits_below (suc n) p = omega (arith, digit_below (p n) (2 ^ n) (bits n p) (bits_below n p))

bits_same : (n : ℕ) (p q : ℕ → Bool) → ((m : ℕ) → m < n → p m ≡ q m) → bits n p ≡ bits n q
bits_same zero p q e = refl
bits_same (suc n) p q e =
    ap (λ (b : Bool). cond b 1 0 * 2 ^ n + bits n p) (e n (omega arith))
    ∙ ap (λ (x : ℕ). cond (q n) 1 0 * 2 ^ n + x) (bits_same n p q (λ m h. e m (omega arith)))

or_one : (b : Bool) → bit_or (cond b 1 0) 1 ≡ cond (b || true) 1 0
or_one true = refl
or_one false = refl

or_none : (b : Bool) → (b || false) ≡ b
or_none true = refl
or_none false = refl

or_assoc : (a b c : Bool) → ((a || b) || c) ≡ (a || (b || c))
or_assoc true b c = refl
or_assoc false b c = refl

-- a mark more is a bit more
bits_or : (n k : ℕ) (p : ℕ → Bool) → k < n → bit_or (bits n p) (2 ^ k) ≡ bits n (λ m. p m || eqb k m)
bits_or zero k p h = let none : ⊥ = omega arith in absurd none
bits_or (suc n) k p h = ⊎_elim
    (λ (less : k < n).
    let apart : eqb k n ≡ false = ne_eqb k n (λ e. omega arith) in
    let split = or_block n (cond (p n) 1 0) 0 (bits n p) (2 ^ k) (bits_below n p) (pow_below k n less) in
    let high : bit_or (cond (p n) 1 0) 0 ≡ cond (p n || eqb k n) 1 0 =
    or_zero_r (cond (p n) 1 0) ∙ ap {B = ℕ} (λ (b : Bool). cond b 1 0) (sym (or_none (p n)) ∙ ap (λ (b : Bool). p n || b) (sym apart)) in
    ap (bit_or (bits (suc n) p)) (omega arith) ∙ (split ∙ (ap (λ (x : ℕ). x * 2 ^ n + bit_or (bits n p) (2 ^ k)) high
    ∙ ap (λ (x : ℕ). cond (p n || eqb k n) 1 0 * 2 ^ n + x) (bits_or n k p less))))
    (λ (more : n ≤ k).
    let same : k ≡ n = omega arith in
    let here : eqb k n ≡ true = eq-eqb k n same in
    let split = or_block n (cond (p n) 1 0) 1 (bits n p) 0 (bits_below n p) (pow_pos n) in
    let high : bit_or (cond (p n) 1 0) 1 ≡ cond (p n || eqb k n) 1 0 =
    or_one (p n) ∙ ap {B = ℕ} (λ (b : Bool). cond (p n || b) 1 0) (sym here) in
    let low : bit_or (bits n p) 0 ≡ bits n (λ m. p m || eqb k m) = or_zero_r (bits n p)
    ∙ bits_same n p (λ m. p m || eqb k m) (λ m lt. sym (ap (λ (b : Bool). p m || b) (ne_eqb k m (λ e. omega arith)) ∙ or_none (p m))) in
    ap (bit_or (bits (suc n) p)) (ap (λ (x : ℕ). 2 ^ x) same ∙ omega arith) ∙ (split ∙ (ap (λ (x : ℕ). x * 2 ^ n + bit_or (bits n p) 0) high
    ∙ ap (λ (x : ℕ). cond (p n || eqb k n) 1 0 * 2 ^ n + x) low)))
    (cases_lt k n)

pub zone_mark : (n : ℕ) (z : Zone) → zone_sound n z ≡ true → z.mark < 6
zone_mark n z e = ltb-true z.mark 6 (and_parts _ _ e).1

-- one zone more, where what the zones after it give is known
zone_more : (s : ℕ) (z : Zone) (zs : List Zone) (p : ℕ → Bool) (b : Bool) → z.mark < 6
    → ((q : ℕ → Bool) → gather s (bits 6 q) zs ≡ bits 6 (λ m. q m || marked zs s m))
    → gather s (cond b (bit_or (bits 6 p) (2 ^ z.mark)) (bits 6 p)) zs ≡ bits 6 (λ m. p m || ((b && eqb z.mark m) || marked zs s m))
zone_more s z zs p true h rest =
    ap (λ (x : ℕ). gather s x zs) (bits_or 6 z.mark p h)
    ∙ (rest (λ m. p m || eqb z.mark m)
    ∙ bits_same 6 (λ m. (p m || eqb z.mark m) || marked zs s m) (λ m. p m || (eqb z.mark m || marked zs s m)) (λ m _. or_assoc (p m) (eqb z.mark m) (marked zs s m)))
zone_more s z zs p false h rest = rest p

-- gathered on top of the marks p, the letter has those of p and those of the zones
gathered : (n s : ℕ) (zs : List Zone) (p : ℕ → Bool) → zones_sound n zs ≡ true → gather s (bits 6 p) zs ≡ bits 6 (λ m. p m || marked zs s m)
gathered n s [] p e = bits_same 6 p (λ m. p m || false) (λ m _. sym (or_none (p m)))
gathered n s (z ∷ zs) p e =
    let parts = and_parts _ _ e in
    zone_more s z zs p (in_zone s z) (zone_mark n z parts.0) (λ q. gathered n s zs q parts.1)

-- the letter gathered from no marks on
pub gather_all : (n s : ℕ) (zs : List Zone) → zones_sound n zs ≡ true → gather s 0 zs ≡ bits 6 (marked zs s)
gather_all n s zs e = gathered n s zs (λ _. false) e

-- what stands where no zone does
abbrev pub no_zone : Zone
no_zone = record { first = 0; last = 0; mark = 0 }

-- one turn of the loop
pub gather_more : (s letter next : ℕ) (zs : List Zone) (i : ℕ) (b : Bool) → i < length zs → in_zone s (get_or zs i no_zone) ≡ b
    → next ≡ cond b (bit_or letter (2 ^ (get_or zs i no_zone).mark)) letter → gather s next (drop (i + 1) zs) ≡ gather s letter (drop i zs)
gather_more s letter next zs i b h e is =
    ap (λ (x : ℕ). gather s x (drop (i + 1) zs)) (is ∙ sym (ap (λ (t : Bool). cond t (bit_or letter (2 ^ (get_or zs i no_zone).mark)) letter) e))
    ∙ sym (at_drop_more (gather s letter) zs i no_zone h)
