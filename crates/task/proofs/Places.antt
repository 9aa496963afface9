-- Places among the states that have a number, and what meeting one more does.
use Rattle.std.proofs.Common.{◌≡◌, ℕ, zero, suc, ◌+◌, ◌<◌, ◌≤◌, eqb, ltb, List, [], ◌∷◌, ◌++◌, length, get_or, take, set, sym, ap, ◌∙◌, subst, inl, inr, arith, length-append, length-set, get_or-take, refl, cond, Some, None, Option, MatchOption}
use Rattle.std.specs.List.{position_or_len}
use Rattle.std.proofs.lemmas.List.Recursion.{is_position_or_len}
use Rattle.std.proofs.lemmas.Bool.{eq-eqb, cases_lt, ltb-true, ltb-false, cond-true, cond_both}
use Rattle.ltlf.specs.Numbering.{place, meet}
use Rattle.ltlf.proofs.Places.{OwnPlaces, place_le, place_get_d, front_length, meet_own, meet_new, meet_has, meet_keeps, meet_at}
use Rattle.task.specs.Apart.{Apart}

-- no index before the place holds the state
place_first : (s : ℕ) (ss : List ℕ) (i : ℕ) → i < length ss → get_or ss i 0 ≡ s → place s ss ≤ i
place_first s [] i h here = let z : ⊥ = omega arith in elim z [ ]
place_first s (x ∷ ss) zero h here = rw (cond-true (eqb x s) 0 (suc (place s ss)) (eq-eqb x s here)) (omega arith)
place_first s (x ∷ ss) (suc i) h here =
    let ih : place s ss ≤ i = place_first s ss i (omega arith) here in
    cond_both (eqb x s) 0 (suc (place s ss)) (λ k. k ≤ suc i) (λ e. omega arith) (λ e. omega arith)

-- the first that is the state stands at the place
place_is : (s : ℕ) (ss : List ℕ) → place s ss ≡ position_or_len (λ x. eqb x s) ss
place_is s ss = is_position_or_len (place s) (λ x. eqb x s) refl (λ x xs. ap (cond (eqb x s) 0) (omega arith)) ss

pub found_place : (s : ℕ) (ss : List ℕ) (r : Option ℕ)
    → r ≡ cond (ltb (position_or_len (λ x. eqb x s) ss) (length ss)) (Some (position_or_len (λ x. eqb x s) ss)) None
    → MatchOption r (length ss ≤ place s ss) (λ q. (q < length ss) × (q ≡ place s ss))
found_place s ss r e =
    let n : ℕ = position_or_len (λ x. eqb x s) ss in
    let P : Option ℕ → Type 0 = λ o. MatchOption o (length ss ≤ place s ss) (λ q. (q < length ss) × (q ≡ place s ss)) in
    subst P (sym e)
    (cond_both (ltb n (length ss)) (Some n) None P
    (λ t. (ltb-true n (length ss) t, sym (place_is s ss)))
    (λ t. omega (arith, place_is s ss, ltb-false n (length ss) t)))

meet_length : (ss : List ℕ) (t : ℕ) → length (meet ss t) ≤ length ss + 1
meet_length ss t =
    cond_both (ltb (place t ss) (length ss)) ss (ss ++ t ∷ []) (λ x. length x ≤ length ss + 1)
    (λ e. omega arith) (λ e. omega (arith, length-append ss (t ∷ [])))

-- a state has the number that it had, or the next one, once it is met
pub meet_place : (ss : List ℕ) (t : ℕ) → place t (meet ss t) ≡ place t ss
meet_place ss t = elim (cases_lt (place t ss) (length ss)) [
  | inl old ↦ meet_keeps ss t t old
  | inr new ↦
      let p : ℕ = place t (meet ss t) in
      let low = place_le t ss in
      let has = meet_has ss t in
      let long = meet_length ss t in
      elim (cases_lt p (length ss)) [
        | inl l ↦
            let first : place t ss ≤ p = place_first t ss p l (sym (meet_at ss t p l) ∙ place_get_d t (meet ss t) has) in
            let z : ⊥ = omega arith in elim z [ ]
        | inr g ↦ omega arith
      ]
]

-- the first n states of an array, none of them twice
module _ (n : ℕ) (xs : List ℕ) (fits : n ≤ length xs) where
  own_front : Apart n xs → OwnPlaces (take n xs)
  own_front apart q h =
      let l : q < n = omega (arith, front_length 0 n xs fits) in
      rw (get_or-take n xs q 0 l) (apart q l)

  own_apart : OwnPlaces (take n xs) → Apart n xs
  own_apart own q h =
      let l : q < length (take n xs) = omega (arith, front_length 0 n xs fits) in
      rw (sym (get_or-take n xs q 0 h)) (own q l)

-- a new state stands at the end
pub apart_meet : (s n : ℕ) (xs : List ℕ) → n < length xs → n ≡ place s (take n xs) → Apart n xs → Apart (n + 1) (set xs n s)
apart_meet s n xs room new apart =
    let fits : n ≤ length xs = omega arith in
    let more : n + 1 ≤ length (set xs n s) = simp length-set (omega arith) in
    own_apart (n + 1) (set xs n s) more
    (subst OwnPlaces (sym (meet_new s n xs fits room new)) (meet_own (take n xs) s (own_front n xs fits apart)))
