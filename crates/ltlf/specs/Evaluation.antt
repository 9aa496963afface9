-- Formulas in a row, evaluated under one letter for the 64 forecasts of six temporal operators at once.
use Rattle.std.specs.Prelude.{◌≡◌, ℕ, ◌+◌, ◌<◌, Bool, List, [], ◌∷◌, ◌++◌, map}
use Rattle.ltlf.specs.Bits.{bit}
use Rattle.ltlf.specs.Ltlf.{Ltlf}
use Rattle.ltlf.specs.Forecasts.{temporal, truth, earlier_bits}

-- the truth of each formula; their temporal operators are numbered on from n
abbrev pub truths : List Ltlf → ℕ → ℕ → ℕ → List Bool
truths [] n a w = []
truths (f ∷ fs) n a w = truth f n a w ∷ truths fs (n + temporal f) a w

-- their bits of the earlier forecast, and zs after them
abbrev pub earlier_of : List Ltlf → ℕ → ℕ → ℕ → List Bool → List Bool
earlier_of [] n a w zs = zs
earlier_of (f ∷ fs) n a w zs = earlier_bits f n a w ++ earlier_of fs (n + temporal f) a w zs

-- words with bit w for forecast w: ws has the truth of each formula under letter a, es each bit of the earlier forecast
pub record Evaluates (fs : List Ltlf) (zs : List Bool) (n a : ℕ) (ws es : List ℕ) : Type 0 where
  pub here : (w : ℕ) → w < 64 → map (bit w) ws ≡ truths fs n a w
  pub before : (w : ℕ) → w < 64 → map (bit w) es ≡ earlier_of fs n a w zs
