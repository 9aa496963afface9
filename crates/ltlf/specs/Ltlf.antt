-- Linear temporal logic over finite traces: its formulas, and when one holds.
use Rattle.std.specs.Prelude.{◌≡◌, ℕ, suc, ◌<◌, ◌≤◌, true, ◌⊎◌, List, length, slice_index}
use Rattle.ltlf.specs.Bits.{bit}

pub data Ltlf : Type 0 where
  top : Ltlf
  mark : ℕ → Ltlf
  neg : Ltlf → Ltlf
  conj : Ltlf → Ltlf → Ltlf
  disj : Ltlf → Ltlf → Ltlf
  next : Ltlf → Ltlf
  weak : Ltlf → Ltlf
  until : Ltlf → Ltlf → Ltlf

abbrev pub eventually : Ltlf → Ltlf
eventually f = until top f

abbrev pub always : Ltlf → Ltlf
always f = neg (eventually (neg f))

-- f holds at position i of the letters xs, where mark m holds if bit m of the letter is 1.
-- next asks for a next position; weak holds where there is none.
abbrev pub Holds : Ltlf → List ℕ → ℕ → Type 0
Holds top xs i = Unit {0}
Holds (mark m) xs i = bit m (slice_index xs i) ≡ true
Holds (neg f) xs i = Holds f xs i → ⊥
Holds (conj f g) xs i = Holds f xs i × Holds g xs i
Holds (disj f g) xs i = Holds f xs i ⊎ Holds g xs i
Holds (next f) xs i = (suc i < length xs) × Holds f xs (suc i)
Holds (weak f) xs i = suc i < length xs → Holds f xs (suc i)
Holds (until f g) xs i =
    (k : ℕ) × (i ≤ k) × (k < length xs) × Holds g xs k × ((j : ℕ) → i ≤ j → j < k → Holds f xs j)

-- the letters satisfy the formula: there is one, and it holds at the first
abbrev pub Satisfies : List ℕ → Ltlf → Type 0
Satisfies xs f = (0 < length xs) × Holds f xs 0
