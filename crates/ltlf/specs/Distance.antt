-- How many letters a state is from acceptance.
use Rattle.std.specs.Prelude.{◌≡◌, ℕ, zero, suc, ◌<◌, ◌≤◌, Bool, true, false, ◌||◌, List, length, Some, None, Option}
use Rattle.std.specs.List.{AllByRecursion}
use Rattle.ltlf.specs.Ltlf.{Ltlf}
use Rattle.ltlf.specs.Numbering.{next_number, accepts_number, number_after}

-- the letters xs, each below n, lead from state q to an accepting state
abbrev pub Leads : Ltlf → ℕ → ℕ → List ℕ → Type 0
Leads f n q xs = AllByRecursion (λ a. a < n) xs × (accepts_number f n (number_after f n q xs) ≡ true)

-- the least number of letters that lead from state q to an accepting state, or none where no letters do
abbrev pub IsDistance : Ltlf → ℕ → ℕ → Option ℕ → Type 0
IsDistance f n q None = (xs : List ℕ) → Leads f n q xs → ⊥
IsDistance f n q (Some d) = ((xs : List ℕ) × Leads f n q xs × (length xs ≡ d)) × ((xs : List ℕ) → Leads f n q xs → d ≤ length xs)

-- the same by a test: some letters, at most k of them, lead from state q to an accepting state
abbrev pub any_below : ℕ → (ℕ → Bool) → Bool
any_below zero p = false
any_below (suc n) p = p n || any_below n p

abbrev pub within : Ltlf → ℕ → ℕ → ℕ → Bool
within f n zero q = accepts_number f n q
within f n (suc k) q = accepts_number f n q || any_below n (λ a. within f n k (next_number f n q a))
