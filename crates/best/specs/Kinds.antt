-- Kinds of value: a total order by rank, the smaller rank the better; a value for none, which is worst; and the extension
-- of a value by an arc's weight.
use Rattle.std.specs.Prelude.{◌≡◌, ℕ, ◌+◌, ◌≤◌, min, Bool, true, false, cond, nat_le}

pub record Order (V W : Type 0) : Type 0 where
  pub rank : V → ℕ
  pub none : V
  pub extended : W → V → V
  -- which terms are values of the kind: a number of the code has a largest one, a number of a clause has none
  pub proper : V → Bool

pub record Lawful {V W : Type 0} (o : Order V W) : Type 0 where
  -- values of one rank are equal
  pub apart : (a b : V) → o.proper a ≡ true → o.proper b ≡ true → o.rank a ≡ o.rank b → a ≡ b
  pub none_proper : o.proper o.none ≡ true
  -- none is worst
  pub worst : (v : V) → o.rank v ≤ o.rank o.none
  -- the extension keeps the order, and never improves a value
  pub keeps : (w : W) (a b : V) → o.rank a ≤ o.rank b → o.rank (o.extended w a) ≤ o.rank (o.extended w b)
  pub worsens : (w : W) (v : V) → o.rank v ≤ o.rank (o.extended w v)

-- yes or no: yes is the better, no stands for none, and every arc passes the answer on
abbrev pub answers : Order Bool Unit
answers = record { rank = λ b. cond b 0 1; none = false; extended = λ _ b. b; proper = λ _. true }

-- a sum that stops at a top, which stands for none
abbrev pub counts : ℕ → Order ℕ ℕ
counts top = record { rank = λ n. min n top; none = top; extended = λ w n. min (n + w) top; proper = λ n. nat_le n top }
