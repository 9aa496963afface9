-- The states numbered as they are met: by first letters from 0 up, then state by state, letter by letter.
use Rattle.std.specs.Prelude.{ℕ, zero, suc, Bool, false, cond, List, [], ◌∷◌, ◌++◌, length, ◌==◌, nat_lt, slice_index}
use Rattle.ltlf.specs.Ltlf.{Ltlf}
use Rattle.ltlf.specs.Automaton.{first, step, accepting}

-- the number of a state: its place in the list, or the length where it is not met yet
abbrev pub place : ℕ → List ℕ → ℕ
place s [] = 0
place s (x ∷ xs) = cond (x == s) 0 (suc (place s xs))

-- the states once s is met: s is added unless it has a number
abbrev pub meet : List ℕ → ℕ → List ℕ
meet ss s = cond (nat_lt (place s ss) (length ss)) ss (ss ++ s ∷ [])

-- the states once g 0, g 1, .. below n are met
abbrev pub meets : (ℕ → ℕ) → ℕ → List ℕ → List ℕ
meets g zero ss = ss
meets g (suc n) ss = meet (meets g n ss) (g n)

-- the states once each letter below n has been followed from state q, if there is such a state
abbrev pub follow : Ltlf → ℕ → ℕ → List ℕ → List ℕ
follow f n q ss = cond (nat_lt q (length ss)) (meets (step f (slice_index ss q)) n ss) ss

-- the states once each first letter below n is met and the states numbered below q have been followed
abbrev pub met : Ltlf → ℕ → ℕ → List ℕ
met f n zero = meets (first f) n []
met f n (suc q) = follow f n q (met f n q)

-- the states over the letters below n, each at its number. These are all if there are at most 64;
-- if there are more, then more than 64 of them (see `ListsStates`).
unfoldable pub states : Ltlf → ℕ → List ℕ
states f n = met f n 64

-- the numbered automaton: the state after a first letter and after a further one, and whether a state accepts
abbrev pub first_number : Ltlf → ℕ → ℕ → ℕ
first_number f n a = place (first f a) (states f n)

abbrev pub next_number : Ltlf → ℕ → ℕ → ℕ → ℕ
next_number f n q a = place (step f (slice_index (states f n) q) a) (states f n)

abbrev pub accepts_number : Ltlf → ℕ → ℕ → Bool
accepts_number f n q = accepting f (slice_index (states f n) q)

-- the number of the state after more letters
abbrev pub number_after : Ltlf → ℕ → ℕ → List ℕ → ℕ
number_after f n q [] = q
number_after f n q (a ∷ xs) = number_after f n (next_number f n q a) xs

-- whether the numbered automaton accepts the letters
abbrev pub accepts_by_number : Ltlf → ℕ → List ℕ → Bool
accepts_by_number f n [] = false
accepts_by_number f n (a ∷ xs) = accepts_number f n (number_after f n (first_number f n a) xs)
