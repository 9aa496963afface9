-- What the tables of a letter mean.
use Rattle.std.specs.Prelude.{◌≡◌, ℕ, ◌/◌, ◌%◌, ◌^◌, ◌<◌, ◌&&◌, List, ◌==◌, nat_lt, slice_index, slice_index_or}
use Rattle.ltlf.specs.Bits.{bit}
use Rattle.ltlf.specs.Ltlf.{Ltlf}
use Rattle.ltlf.specs.Forecasts.{temporal, earlier}
use Rattle.ltlf.specs.Automaton.{first}
use Rattle.task.specs.declared.letter.Letter.{Letter}

-- the tables are those of the letter a for the formula f
pub record Acts (f : Ltlf) (a : ℕ) (l : Letter) : Type 0 where
  pub start : l.first ≡ first f a
  pub lower : (n w : ℕ) → n < 16 → w < 64 → bit w (slice_index l.low n) ≡ bit (earlier f a w % 4) n
  pub upper : (j w : ℕ) → j < 16 → w < 64 → bit w (slice_index l.high j) ≡ (nat_lt w (2 ^ temporal f) && earlier f a w / 4 == j)

-- each letter below n has its tables
abbrev pub ActsAll : Ltlf → ℕ → List Letter → Type 0
ActsAll f n ls = (a : ℕ) (d : Letter) → a < n → Acts f a (slice_index_or ls a d)
