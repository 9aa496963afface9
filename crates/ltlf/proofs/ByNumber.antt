-- With at most 64 states, the numbered automaton accepts exactly the letters that satisfy the formula.
use Rattle.std.proofs.Common.{◌≡◌, ℕ, ◌<◌, ◌≤◌, List, [], ◌∷◌, ◌++◌, length, get_or, sym, refl, ap, ◌∙◌, subst}
use Rattle.std.proofs.lemmas.Bool.Decides.{Decides-at}
use Rattle.ltlf.specs.Ltlf.{Ltlf}
use Rattle.ltlf.specs.Automaton.{first, step, steps, accepting, accepts}
use Rattle.ltlf.specs.Numbering.{place, states, first_number, next_number, number_after, accepts_by_number}
use Rattle.ltlf.specs.Theorems.{LettersBelow, AcceptsByNumber}
use Rattle.ltlf.proofs.Places.{place_get_d}
use Rattle.ltlf.proofs.Numbers.{Reached, reached_first, reached_step, numbers_states}
use Rattle.ltlf.proofs.Right.{accepts_satisfying}

module _ (f : Ltlf) (n : ℕ) (few : length (states f n) ≤ 64) where
  -- a state that is reached has a number
  known : (s : ℕ) → Reached f n s → place s (states f n) < length (states f n)
  known s r =
      let P : ℕ → Type 0 = λ x. place x (states f n) < length (states f n) in
      subst P (sym r.is) ((numbers_states f n).whole few r.start r.more r.start_below r.more_below)

  pub first_known : (a : ℕ) → a < n → first_number f n a < length (states f n)
  first_known a h = known (first f a) (reached_first f n a h)

  pub next_known : (q a : ℕ) → q < length (states f n) → a < n → next_number f n q a < length (states f n)
  next_known q a h l =
      let r = (numbers_states f n).reached q h in
      known (step f (get_or (states f n) q 0) a)
      (reached_step f n (get_or (states f n) q 0) a (record { start = r.0; more = r.1; start_below = r.2; more_below = r.3; is = r.4 }) l)

  -- the state at the number of a state that is reached
  state_at : (s : ℕ) → Reached f n s → get_or (states f n) (place s (states f n)) 0 ≡ s
  state_at s r = place_get_d s (states f n) (known s r)

  -- the state at the number after more letters
  state_after : (q s : ℕ) (xs : List ℕ) → get_or (states f n) q 0 ≡ s → Reached f n s → LettersBelow n xs
      → get_or (states f n) (number_after f n q xs) 0 ≡ steps f s xs
  state_after q s [] e r below = e
  state_after q s (a ∷ xs) e r below =
      let after : Reached f n (step f s a) = reached_step f n s a r below.0 in
      state_after (next_number f n q a) (step f s a) xs
      (ap (λ x. get_or (states f n) (place (step f x a) (states f n)) 0) e ∙ state_at (step f s a) after) after below.1

  same_answer : (xs : List ℕ) → LettersBelow n xs → accepts_by_number f n xs ≡ accepts f xs
  same_answer [] below = refl
  same_answer (a ∷ xs) below =
      let r : Reached f n (first f a) = reached_first f n a below.0 in
      ap (accepting f) (state_after (first_number f n a) (first f a) xs (state_at (first f a) r) r below.1)

pub accepts_by_number_right : AcceptsByNumber
accepts_by_number_right f n few xs below =
    Decides-at (accepts_by_number f n xs) (accepts f xs) (same_answer f n few xs below) (accepts_satisfying f xs)

-- one letter more
pub number_push : (f : Ltlf) (n q : ℕ) (xs : List ℕ) (a : ℕ) → number_after f n q (xs ++ a ∷ []) ≡ next_number f n (number_after f n q xs) a
number_push f n q [] a = refl
number_push f n q (x ∷ xs) a = number_push f n (next_number f n q x) xs a
