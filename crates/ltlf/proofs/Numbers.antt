-- `states` lists states of the automaton, no state twice, and all of them if there are at most 64.
use Rattle.std.proofs.Common.{◌≡◌, ℕ, zero, suc, ◌<◌, ◌≤◌, ltb, List, [], ◌∷◌, ◌++◌, length, get_or, sym, refl, ap, ◌∙◌, subst, inl, inr, arith}
use Rattle.std.proofs.ByRecursion.{All-push}
use Rattle.std.proofs.lemmas.Bool.{cases_lt, cond_both, ltb-true}
use Rattle.ltlf.specs.Ltlf.{Ltlf}
use Rattle.ltlf.specs.Automaton.{first, step, steps}
use Rattle.ltlf.specs.Numbering.{place, meet, meets, follow, met, states}
use Rattle.ltlf.specs.Theorems.{LettersBelow, NumbersStates}
use Rattle.ltlf.proofs.Places.{OwnPlaces, place_get_d, begins_at, begins_has, meet_each, meet_own}
use Rattle.ltlf.proofs.Meeting.{meets_has, follow_known, met_begins, met_whole}

-- a state that the automaton is in after some letters below n
pub record Reached (f : Ltlf) (n s : ℕ) : Type 0 where
  pub start : ℕ
  pub more : List ℕ
  pub start_below : start < n
  pub more_below : LettersBelow n more
  pub is : s ≡ steps f (first f start) more

pub reached_first : (f : Ltlf) (n a : ℕ) → a < n → Reached f n (first f a)
reached_first f n a h = record { start = a; more = []; start_below = h; more_below = tt; is = refl }

steps_push : (f : Ltlf) (s : ℕ) (xs : List ℕ) (a : ℕ) → steps f s (xs ++ a ∷ []) ≡ step f (steps f s xs) a
steps_push f s [] a = refl
steps_push f s (x ∷ xs) a = steps_push f (step f s x) xs a

pub reached_step : (f : Ltlf) (n s a : ℕ) → Reached f n s → a < n → Reached f n (step f s a)
reached_step f n s a r h = record {
  start = r.start;
  more = r.more ++ a ∷ [];
  start_below = r.start_below;
  more_below = All-push (λ x. x < n) r.more a r.more_below h;
  is = ap (λ x. step f x a) r.is ∙ sym (steps_push f (first f r.start) r.more a);
}

-- only states that are reached are met, and none twice
record Sound (f : Ltlf) (n : ℕ) (ss : List ℕ) : Type 0 where
  each : (q : ℕ) → q < length ss → Reached f n (get_or ss q 0)
  own : OwnPlaces ss

sound_none : (f : Ltlf) (n : ℕ) → Sound f n []
sound_none f n = record {
  each = λ q h. let z : ⊥ = omega arith in elim z [ ];
  own = λ q h. let z : ⊥ = omega arith in elim z [ ];
}

sound_meet : (f : Ltlf) (n t : ℕ) (ss : List ℕ) → Sound f n ss → Reached f n t → Sound f n (meet ss t)
sound_meet f n t ss sound r = record {
  each = meet_each (λ s. Reached f n s) ss t sound.each r;
  own = meet_own ss t sound.own;
}

sound_meets : (f : Ltlf) (n : ℕ) (g : ℕ → ℕ) (m : ℕ) (ss : List ℕ) → ((a : ℕ) → a < m → Reached f n (g a)) → Sound f n ss → Sound f n (meets g m ss)
sound_meets f n g zero ss r sound = sound
sound_meets f n g (suc m) ss r sound =
    sound_meet f n (g m) (meets g m ss) (sound_meets f n g m ss (λ a h. r a (omega arith)) sound) (r m (omega arith))

sound_follow : (f : Ltlf) (n q : ℕ) (ss : List ℕ) → Sound f n ss → Sound f n (follow f n q ss)
sound_follow f n q ss sound =
    cond_both (ltb q (length ss)) (meets (step f (get_or ss q 0)) n ss) ss (λ x. Sound f n x)
    (λ e. sound_meets f n (step f (get_or ss q 0)) n ss
    (λ a h. reached_step f n (get_or ss q 0) a (sound.each q (ltb-true q (length ss) e)) h) sound)
    (λ e. sound)

sound_met : (f : Ltlf) (n q : ℕ) → Sound f n (met f n q)
sound_met f n zero = sound_meets f n (first f) n [] (λ a h. reached_first f n a h) (sound_none f n)
sound_met f n (suc q) = sound_follow f n q (met f n q) (sound_met f n q)

-- if at most m states are met once m are followed, then all of those are followed, and so all that are reached are met
module _ (f : Ltlf) (n m : ℕ) (few : length (met f n m) ≤ m) where
  step_met : (s a : ℕ) → place s (met f n m) < length (met f n m) → a < n → place (step f s a) (met f n m) < length (met f n m)
  step_met s a h l =
      let p : ℕ = place s (met f n m) in
      elim (cases_lt p (length (met f n p))) [
        | inl known ↦
            let at : get_or (met f n p) p 0 ≡ s
            = sym (begins_at (met f n p) (met f n m) (met_begins f n p m (omega arith)) p known) ∙ place_get_d s (met f n m) h in
            let next : meets (step f s) n (met f n p) ≡ met f n (suc p)
            = ap (λ x. meets (step f x) n (met f n p)) (sym at) ∙ follow_known f n p (met f n p) known in
            let P : List ℕ → Type 0 = λ ss. place (step f s a) ss < length ss in
            begins_has (met f n (suc p)) (met f n m) (met_begins f n (suc p) m (omega arith)) (step f s a)
            (subst P next (meets_has (step f s) n (met f n p) a l))
        | inr past ↦
            let same : met f n m ≡ met f n p = met_whole f n p m past (omega arith) in
            let z : ⊥ = omega (arith, ap length same) in elim z [ ]
      ]

  steps_met : (s : ℕ) (xs : List ℕ) → place s (met f n m) < length (met f n m) → LettersBelow n xs
      → place (steps f s xs) (met f n m) < length (met f n m)
  steps_met s [] h below = h
  steps_met s (a ∷ xs) h below = steps_met (step f s a) xs (step_met s a h below.0) below.1

  first_met : (a : ℕ) → a < n → place (first f a) (met f n m) < length (met f n m)
  first_met a h =
      begins_has (met f n 0) (met f n m) (met_begins f n 0 m (omega arith)) (first f a) (meets_has (first f) n [] a h)

pub numbers_states : NumbersStates
unfolding states
numbers_states f n =
    let sound : Sound f n (met f n 64) = sound_met f n 64 in
    record {
      reached = λ q h. let r : Reached f n (get_or (met f n 64) q 0) = sound.each q h in
          (r.start, r.more, r.start_below, r.more_below, r.is);
      apart = λ p q hp hq e. sym (sound.own p hp) ∙ (ap (λ s. place s (met f n 64)) e ∙ sound.own q hq);
      whole = λ few a xs h below. steps_met f n 64 few (first f a) xs (first_met f n 64 few a h) below;
    }
