-- What the tables of an automaton mean.
use Rattle.std.specs.Prelude.{◌≡◌, ℕ, ◌<◌, List, slice_index}
use Rattle.ltlf.specs.Ltlf.{Ltlf}
use Rattle.ltlf.specs.Numbering.{place, meets, states, first_number, next_number}
use Rattle.task.specs.Listed.{listed}
use Rattle.task.specs.Rows.{entry}
use Rattle.task.specs.declared.tables.Tables.{Tables}

-- the states g 0, g 1, .. below n are met after those of ss, which gives ts, and h has their numbers there
pub record Tabled (g : ℕ → ℕ) (n : ℕ) (ss ts : List ℕ) (h : ℕ → ℕ) : Type 0 where
  pub lists : ts ≡ meets g n ss
  pub numbers : (a : ℕ) → a < n → h a ≡ place (g a) ts

-- the tables are those of the automaton of f over the letters below n
pub record Tabulates (f : Ltlf) (n : ℕ) (t : Tables) : Type 0 where
  pub lists : listed t.numbered ≡ states f n
  pub starts : (a : ℕ) → a < n → slice_index t.first a ≡ first_number f n a
  pub steps : (q a : ℕ) → q < t.numbered.count → a < n → entry t.next q a ≡ next_number f n q a
