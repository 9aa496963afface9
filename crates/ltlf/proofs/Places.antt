-- The place of a state in a list of states, and what meeting a state does to the list.
use Rattle.std.proofs.Common.{◌≡◌, ℕ, suc, ◌+◌, ◌<◌, ◌≤◌, Bool, true, false, cond, eqb, ltb, List, [], ◌∷◌, ◌++◌, length, get_or, take, set, sym, refl, ap, ◌∙◌, inl, inr, append_assoc, arith, length-append, length-take}
use Rattle.std.proofs.lemmas.List.{take_more_set, append-nil, get_or_append_left, get_or_push}
use Rattle.std.proofs.lemmas.Bool.{eq-eqb, eqb-true, le-ltb, ltb-true, ltb-false, cases_lt, cond-true, cond-false, cond_both}
use Rattle.ltlf.specs.Numbering.{place, meet}

-- the place is at most the length
cond_le : (b : Bool) (m n : ℕ) → m ≤ n → cond b 0 (suc m) ≤ suc n
cond_le true m n h = omega arith
cond_le false m n h = omega arith

pub place_le : (s : ℕ) (xs : List ℕ) → place s xs ≤ length xs
place_le s [] = omega arith
place_le s (x ∷ xs) = cond_le (eqb x s) (place s xs) (length xs) (place_le s xs)

-- the list holds the state at its place, if it has one
get_d_cond : (b : Bool) (x s m : ℕ) (ss : List ℕ) → (b ≡ true → x ≡ s) → (m < length ss → get_or ss m 0 ≡ s)
    → cond b 0 (suc m) < suc (length ss) → get_or (x ∷ ss) (cond b 0 (suc m)) 0 ≡ s
get_d_cond true x s m ss here later h = here refl
get_d_cond false x s m ss here later h = later (omega arith)

pub place_get_d : (s : ℕ) (ss : List ℕ) → place s ss < length ss → get_or ss (place s ss) 0 ≡ s
place_get_d s [] h = let z : ⊥ = omega arith in elim z [ ]
place_get_d s (x ∷ ss) h = get_d_cond (eqb x s) x s (place s ss) ss (eqb-true x s) (place_get_d s ss) h

-- places in the first n of an array
module _ (s n : ℕ) (xs : List ℕ) (fits : n ≤ length xs) where
  pub front_length : length (take n xs) ≡ n
  front_length = simp length-take (omega arith)

  -- meeting a new one
  meet_fresh : n ≡ place s (take n xs) → meet (take n xs) s ≡ take n xs ++ s ∷ []
  meet_fresh h = cond-false (ltb (place s (take n xs)) (length (take n xs))) (take n xs) (take n xs ++ s ∷ []) (le-ltb _ _ (omega (arith, front_length)))

  pub meet_new : n < length xs → n ≡ place s (take n xs) → take (n + 1) (set xs n s) ≡ meet (take n xs) s
  meet_new h e = take_more_set xs n s h ∙ sym (meet_fresh e)

-- a list that begins with another: lengths, elements and places
pub record Begins (ss ts : List ℕ) : Type 0 where
  pub rest : List ℕ
  pub is : ts ≡ ss ++ rest

pub begins_same : (ss : List ℕ) → Begins ss ss
begins_same ss = record { rest = []; is = sym (append-nil ss) }

pub begins_then : (ss ts us : List ℕ) → Begins ss ts → Begins ts us → Begins ss us
begins_then ss ts us b c = record {
  rest = b.rest ++ c.rest;
  is = c.is ∙ (ap (λ x. x ++ c.rest) b.is ∙ append_assoc ss b.rest c.rest);
}

pub begins_length : (ss ts : List ℕ) → Begins ss ts → length ss ≤ length ts
begins_length ss ts b = omega (arith, ap length b.is, length-append ss b.rest)

pub begins_at : (ss ts : List ℕ) → Begins ss ts → (q : ℕ) → q < length ss → get_or ts q 0 ≡ get_or ss q 0
begins_at ss ts b q h = ap (λ x. get_or x q 0) b.is ∙ get_or_append_left ss b.rest 0 q h

cond_kept : (b : Bool) (m n k : ℕ) → (m < k → n ≡ m) → cond b 0 (suc m) < suc k → cond b 0 (suc n) ≡ cond b 0 (suc m)
cond_kept true m n k same h = refl
cond_kept false m n k same h = ap suc (same (omega arith))

place_append : (s : ℕ) (ss rs : List ℕ) → place s ss < length ss → place s (ss ++ rs) ≡ place s ss
place_append s [] rs h = let z : ⊥ = omega arith in elim z [ ]
place_append s (x ∷ ss) rs h = cond_kept (eqb x s) (place s ss) (place s (ss ++ rs)) (length ss) (place_append s ss rs) h

pub begins_place : (ss ts : List ℕ) → Begins ss ts → (s : ℕ) → place s ss < length ss → place s ts ≡ place s ss
begins_place ss ts b s h = ap (place s) b.is ∙ place_append s ss b.rest h

pub begins_has : (ss ts : List ℕ) → Begins ss ts → (s : ℕ) → place s ss < length ss → place s ts < length ts
begins_has ss ts b s h = omega (arith, begins_place ss ts b s h, begins_length ss ts b)

-- what meeting a state keeps, and that the state has a place then
pub meet_begins : (ss : List ℕ) (t : ℕ) → Begins ss (meet ss t)
meet_begins ss t =
    cond_both (ltb (place t ss) (length ss)) ss (ss ++ t ∷ []) (λ x. Begins ss x)
    (λ e. begins_same ss) (λ e. record { rest = t ∷ []; is = refl })

pub meet_at : (ss : List ℕ) (t q : ℕ) → q < length ss → get_or (meet ss t) q 0 ≡ get_or ss q 0
meet_at ss t q h = begins_at ss (meet ss t) (meet_begins ss t) q h

pub meet_keeps : (ss : List ℕ) (s t : ℕ) → place s ss < length ss → place s (meet ss t) ≡ place s ss
meet_keeps ss s t h = begins_place ss (meet ss t) (meet_begins ss t) s h

cond_new : (b : Bool) (m n k : ℕ) → (k ≤ m → n ≡ k) → suc k ≤ cond b 0 (suc m) → cond b 0 (suc n) ≡ suc k
cond_new true m n k last h = let z : ⊥ = omega arith in elim z [ ]
cond_new false m n k last h = ap suc (last (omega arith))

place_new : (t : ℕ) (ss : List ℕ) → length ss ≤ place t ss → place t (ss ++ t ∷ []) ≡ length ss
place_new t [] h = cond-true (eqb t t) 0 1 (eq-eqb t t refl)
place_new t (x ∷ ss) h = cond_new (eqb x t) (place t ss) (place t (ss ++ t ∷ [])) (length ss) (place_new t ss) h

pub meet_has : (ss : List ℕ) (t : ℕ) → place t (meet ss t) < length (meet ss t)
meet_has ss t =
    cond_both (ltb (place t ss) (length ss)) ss (ss ++ t ∷ []) (λ x. place t x < length x)
    (λ e. ltb-true (place t ss) (length ss) e)
    (λ e. omega (arith, place_new t ss (ltb-false _ _ e), length-append ss (t ∷ [])))

-- what holds of each state and of a new one holds of each once the new one is met
each_push : (P : ℕ → Type 0) (ss : List ℕ) (t : ℕ) → ((q : ℕ) → q < length ss → P (get_or ss q 0)) → P t
    → (q : ℕ) → q < length (ss ++ t ∷ []) → P (get_or (ss ++ t ∷ []) q 0)
each_push P ss t each new q h = elim (cases_lt q (length ss)) [
  | inl l ↦ rw (get_or_append_left ss (t ∷ []) 0 q l) (each q l)
  | inr g ↦
      let e : length ss ≡ q = omega (arith, length-append ss (t ∷ [])) in
      rw (get_or_push ss t 0 q e) new
]

pub meet_each : (P : ℕ → Type 0) (ss : List ℕ) (t : ℕ) → ((q : ℕ) → q < length ss → P (get_or ss q 0)) → P t
    → (q : ℕ) → q < length (meet ss t) → P (get_or (meet ss t) q 0)
meet_each P ss t each new =
    cond_both (ltb (place t ss) (length ss)) ss (ss ++ t ∷ []) (λ x. (q : ℕ) → q < length x → P (get_or x q 0))
    (λ e. each) (λ e. each_push P ss t each new)

-- each state's place is its index
abbrev pub OwnPlaces : List ℕ → Type 0
OwnPlaces ss = (q : ℕ) → q < length ss → place (get_or ss q 0) ss ≡ q

own_push : (ss : List ℕ) (t : ℕ) → length ss ≤ place t ss → OwnPlaces ss → OwnPlaces (ss ++ t ∷ [])
own_push ss t new own q h = elim (cases_lt q (length ss)) [
  | inl l ↦ rw (get_or_append_left ss (t ∷ []) 0 q l)
      (place_append (get_or ss q 0) ss (t ∷ []) (omega (arith, own q l)) ∙ own q l)
  | inr g ↦
      let e : length ss ≡ q = omega (arith, length-append ss (t ∷ [])) in
      rw (get_or_push ss t 0 q e) (place_new t ss new ∙ e)
]

pub meet_own : (ss : List ℕ) (t : ℕ) → OwnPlaces ss → OwnPlaces (meet ss t)
meet_own ss t own =
    cond_both (ltb (place t ss) (length ss)) ss (ss ++ t ∷ []) OwnPlaces
    (λ e. own) (λ e. own_push ss t (ltb-false _ _ e) own)
