-- Charts and the machines of tasks: pairs of a station and a state, and the legs between them.
use Rattle.std.specs.Prelude.{◌≡◌, ℕ, ◌+◌, ◌*◌, ◌/◌, ◌%◌, ◌<◌, Bool, ◌&&◌, List, [], ◌∷◌, map, length, ◌==◌, nat_lt, slice_index, slice_index_or}
use Rattle.chart.specs.declared.leg.Leg.{Leg}
use Rattle.chart.specs.Chart.{Plan}
use Rattle.ltlf.specs.Ltlf.{Ltlf}
use Rattle.ltlf.specs.Numbering.{states, first_number, next_number, accepts_number}
use Rattle.law.specs.Grounds.{Land, Ground}

-- Letters are numbers below a count, and so are states: the state after a first letter, the state after a state and a
-- further letter, and which states accept.
pub record Machine : Type 0 where
  pub letters : ℕ
  pub states : ℕ
  pub first : ℕ → ℕ
  pub next : ℕ → ℕ → ℕ
  pub accepts : ℕ → Bool

-- The machine of a formula over the letters below n: its automaton, by the numbers of the states.
abbrev pub machine_of : Ltlf → ℕ → Machine
machine_of f n = record {
  letters = n;
  states = length (states f n);
  first = first_number f n;
  next = next_number f n;
  accepts = accepts_number f n;
}

-- The leg with a number.
abbrev pub leg : Plan → ℕ → Leg
leg c l = slice_index_or c.legs l (record { from = 0; to = 0; seconds = 0 })

-- The letter of a station.
abbrev pub letter : Plan → ℕ → ℕ
letter c s = slice_index c.letters s

-- The letters of stations.
abbrev pub spelt : Plan → List ℕ → List ℕ
spelt c ss = map (letter c) ss

-- A leg of the chart leads from each station of the list to the next.
abbrev pub Joined : Plan → List ℕ → Type 0
Joined c [] = Unit {0}
Joined c (s ∷ []) = Unit {0}
Joined c (s ∷ t ∷ rest) = ((l : ℕ) × (l < length c.legs) × ((leg c l).from ≡ s) × ((leg c l).to ≡ t)) × Joined c (t ∷ rest)

-- A leg's time today: its seconds, and the excess that the drag sheet holds for it.
abbrev pub today : Plan → List ℕ → ℕ → ℕ
today c drags l = (leg c l).seconds + slice_index drags l

-- The number of the pair of station s and state q.
abbrev pub pair : Machine → ℕ → ℕ → ℕ
pair m s q = s * m.states + q

-- The station of a pair.
abbrev pub station : Machine → ℕ → ℕ
station m p = p / m.states

-- The state of a pair.
abbrev pub state : Machine → ℕ → ℕ
state m p = p % m.states

-- A leg leads from a pair to the station where it ends and the state that this station's letter gives; a pair is a goal if
-- its state accepts.
abbrev pub land : Machine → Plan → Land
land m c = record {
  pairs = length c.letters * m.states;
  legs = length c.legs;
  leaves = λ p l. nat_lt l (length c.legs) && ((leg c l).from == station m p);
  to = λ p l. pair m (leg c l).to (m.next (state m p) (letter c (leg c l).to));
  goal = λ p. m.accepts (state m p);
}

-- The land at today's times.
abbrev pub ground_of : Machine → Plan → List ℕ → Ground
ground_of m c drags = record { land = land m c; time = today c drags }
