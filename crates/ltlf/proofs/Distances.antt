-- A test for how many letters a state is from acceptance, and the letters themselves.
use Rattle.std.proofs.Common.{◌≡◌, ℕ, zero, suc, ◌<◌, ◌≤◌, Bool, true, false, ◌&&◌, ltb, leb, List, [], ◌∷◌, length, Some, None, sym, refl, ap, ◌∙◌, inl, inr, arith}
use Rattle.std.proofs.lemmas.Bool.{cases_eq, or_cases, or_left, or_right, both_ways, and_parts, and_from, le-leb, leb-true, lt-ltb, ltb-true}
use Rattle.ltlf.specs.Ltlf.{Ltlf}
use Rattle.ltlf.specs.Numbering.{next_number, accepts_number}
use Rattle.ltlf.specs.Distance.{Leads, IsDistance, any_below, within}

any_found : (n : ℕ) (p : ℕ → Bool) → any_below n p ≡ true → (a : ℕ) × (a < n) × (p a ≡ true)
any_found zero p e = elim (both_ways false refl e) [ ]
any_found (suc n) p e = elim (or_cases (p n) (any_below n p) e) [
  | inl here ↦ (n, omega arith, here)
  | inr below ↦ (let r = any_found n p below in (r.0, omega (arith, r.1), r.2))
]

any_from : (n : ℕ) (p : ℕ → Bool) (a : ℕ) → a < n → p a ≡ true → any_below n p ≡ true
any_from zero p a h e = let z : ⊥ = omega arith in absurd z
any_from (suc n) p a h e = elim (cases_eq a n) [
  | inl same ↦ or_left (p n) (any_below n p) (ap p (sym same) ∙ e)
  | inr other ↦ or_right (p n) (any_below n p) (any_from n p a (omega arith) e)
]

module _ (f : Ltlf) (n : ℕ) where
  pub within_letters : (k q : ℕ) → within f n k q ≡ true → (xs : List ℕ) × Leads f n q xs × (length xs ≤ k)
  within_letters zero q e = ([], (tt, e), omega arith)
  within_letters (suc k) q e = elim (or_cases (accepts_number f n q) (any_below n (λ a. within f n k (next_number f n q a))) e) [
    | inl here ↦ ([], (tt, here), omega arith)
    | inr later ↦
        let a = any_found n (λ a. within f n k (next_number f n q a)) later in
        let r = within_letters k (next_number f n q a.0) a.2 in
        (a.0 ∷ r.0, ((a.1, r.1.0), r.1.1), omega (arith, r.2))
  ]

  pub letters_within : (xs : List ℕ) (k q : ℕ) → length xs ≤ k → Leads f n q xs → within f n k q ≡ true
  letters_within [] zero q h l = l.1
  letters_within [] (suc k) q h l = or_left (accepts_number f n q) (any_below n (λ a. within f n k (next_number f n q a))) l.1
  letters_within (a ∷ xs) zero q h l = let z : ⊥ = omega arith in absurd z
  letters_within (a ∷ xs) (suc k) q h l =
      or_right (accepts_number f n q) (any_below n (λ a. within f n k (next_number f n q a)))
      (any_from n (λ a. within f n k (next_number f n q a)) a l.0.0 (letters_within xs k (next_number f n q a) (omega arith) (l.0.1, l.1)))

  -- a number d, where top stands for none, by the tests
  module _ (q d top : ℕ) (tests : (k : ℕ) → within f n k q ≡ (ltb d top && leb d k)) where
    pub distance_none : top ≤ d → IsDistance f n q None
    distance_none h xs l =
        let e = sym (tests (length xs)) ∙ letters_within xs (length xs) q (omega arith) l in
        omega (arith, ltb-true d top (and_parts (ltb d top) (leb d (length xs)) e).0)

    pub distance_some : d < top → IsDistance f n q (Some d)
    distance_some h =
        let there = within_letters d q (tests d ∙ and_from (ltb d top) (leb d d) (lt-ltb d top h) (le-leb d d (omega arith))) in
        let least : (xs : List ℕ) → Leads f n q xs → d ≤ length xs
        = λ xs l. leb-true d (length xs) (and_parts (ltb d top) (leb d (length xs)) (sym (tests (length xs)) ∙ letters_within xs (length xs) q (omega arith) l)).1 in
        ((there.0, there.1, omega (arith, there.2, least there.0 there.1)), least)
