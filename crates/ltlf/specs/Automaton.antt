-- The automaton of a formula. A state is a set of forecasts, as a number with bit w for forecast w.
use Rattle.std.specs.Prelude.{ℕ, ◌^◌, Bool, false, List, [], ◌∷◌}
use Rattle.ltlf.specs.Bits.{bit, pack}
use Rattle.ltlf.specs.Ltlf.{Ltlf}
use Rattle.ltlf.specs.Forecasts.{temporal, truth, earlier, ending}

-- after the first letter: the forecasts under which the formula is true
abbrev pub first : Ltlf → ℕ → ℕ
first f a = pack (2 ^ temporal f) (λ w. truth f 0 a w)

-- after a further letter: the forecasts whose earlier forecast lay in the state before
abbrev pub step : Ltlf → ℕ → ℕ → ℕ
step f s a = pack (2 ^ temporal f) (λ w. bit (earlier f a w) s)

-- from a state, after more letters
abbrev pub steps : Ltlf → ℕ → List ℕ → ℕ
steps f s [] = s
steps f s (a ∷ xs) = steps f (step f s a) xs

-- a state accepts if it holds the end forecast
abbrev pub accepting : Ltlf → ℕ → Bool
accepting f s = bit (ending f) s

-- whether the automaton accepts the letters
abbrev pub accepts : Ltlf → List ℕ → Bool
accepts f [] = false
accepts f (a ∷ xs) = accepting f (steps f (first f a) xs)
