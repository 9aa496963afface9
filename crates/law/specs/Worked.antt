-- A worked run: a bore of four stations, each step as the definitions have it.
use Rattle.std.specs.Prelude.{◌≡◌, ℕ, true, false, ◌||◌, List, [], ◌∷◌, ◌==◌}
use Rattle.chart.specs.declared.leg.Leg.{Leg}
use Rattle.chart.specs.Chart.{Plan}
use Rattle.chart.specs.Bores.{bore_plan}
use Rattle.ltlf.specs.Ltlf.{Ltlf, mark, conj, next, eventually, Satisfies}
use Rattle.ltlf.specs.Numbering.{states}
use Rattle.law.specs.Guides.{total, lives}
use Rattle.law.specs.Searches.{plain, foremost}
use Rattle.law.specs.Runs.{Site, Run, arrived, blank, opened, Opens, Call, Answer, decide, move, drag, decided, moved, dragged, refused, refusal, After}
use Rattle.law.specs.Law.{Law}
use Rattle.law.specs.Theorems.{Limits}

-- eventually mark 0, and later mark 1
abbrev pub bore : Ltlf
bore = eventually (conj (mark 0) (next (eventually (mark 1))))

-- a leg from a to b of w seconds
abbrev pub way : ℕ → ℕ → ℕ → Leg
way a b w = record { from = a; to = b; seconds = w }

-- station 1 has mark 1 and station 3 mark 0; each leg down takes 30 seconds, each leg up 40
abbrev pub bore_chart : Plan
bore_chart = record {
  letters = 0 ∷ 2 ∷ 0 ∷ 1 ∷ [];
  legs = way 0 1 30 ∷ way 1 0 40 ∷ way 1 2 30 ∷ way 2 1 40 ∷ way 2 3 30 ∷ way 3 2 40 ∷ [];
}

-- at station 0, with two expansions a decision
abbrev pub site : Site
site = record { formula = bore; letters = 4; chart = bore_chart; start = 0; lookahead = 2 }

-- for each letter that one of the five states still needs 30 seconds, since no leg takes less
abbrev pub row : List ℕ → List ℕ
row xs = 60 ∷ 30 ∷ 30 ∷ 30 ∷ 0 ∷ xs

-- the first guide: these numbers at each station
abbrev pub first_guide : List ℕ
first_guide = row (row (row (row [])))

-- the run when it has opened
abbrev pub start : Run
start = opened site first_guide

-- the calls, the last of them after arrival
abbrev pub calls : List Call
calls = decide ∷ move ∷ move ∷ decide ∷ move ∷ move ∷ decide ∷ move ∷ move ∷ []

-- what they answer
abbrev pub answers : List Answer
answers =
    decided 2 0 2 120 ∷ moved 1 0 30 ∷ moved 2 0 60 ∷ decided 2 0 2 100 ∷ moved 3 1 90 ∷ moved 2 2 130 ∷ decided 1 0 1 40
    ∷ moved 1 4 170 ∷ refused 16 ∷ []

-- what is computed
pub record Worked : Type 0 where
  pub is_bore : bore_plan 4 30 40 (record { first = 1; last = 1; mark = 1 } ∷ record { first = 3; last = 3; mark = 0 } ∷ []) ≡ bore_chart
  pub five_states : states bore 4 ≡ 170 ∷ 238 ∷ 250 ∷ 254 ∷ 255 ∷ []
  pub within : Limits site
  -- no pair is dead, so the run opens with the first guide as it is
  pub opens : Opens site first_guide start
  -- the whole run: arrived after five moves and 170 seconds; the guide's sum rose from 600 to 780 over 20 live pairs
  pub end : Run
  pub runs : After start calls answers end
  pub arrives : arrived end ≡ true
  pub moves : end.moves ≡ 5
  pub paid : end.paid ≡ 170
  pub first_total : total first_guide ≡ 600
  pub end_total : total end.guide ≡ 780
  pub end_lives : lives end.guide ≡ 20
  pub lawful : Law site first_guide end (1 ∷ 2 ∷ 3 ∷ 2 ∷ 1 ∷ [])
  pub satisfied : Satisfies (0 ∷ 2 ∷ 0 ∷ 1 ∷ 0 ∷ 2 ∷ []) bore
  -- after a decision and a move, drags: of leg 2 to no more than its time, of leg 2 past 1,000, of a leg that is not there, and
  -- of leg 2 to more than its time, which gives up the plan
  pub dragged_end : Run
  pub drags : After start (decide ∷ move ∷ drag 2 30 ∷ drag 2 1001 ∷ drag 6 50 ∷ drag 2 50 ∷ move ∷ [])
      (decided 2 0 2 120 ∷ moved 1 0 30 ∷ refused 20 ∷ refused 21 ∷ refused 19 ∷ dragged 2 50 ∷ refused 18 ∷ []) dragged_end
  pub decides_again : refusal dragged_end decide ≡ 0
  -- a run that was never opened refuses every call
  pub unopened : (refusal blank decide ≡ 16) × (refusal blank move ≡ 16) × ((l w : ℕ) → refusal blank (drag l w) ≡ 19)
  -- a tie goes to the lower number: pairs 3 and 5 are listed with one f
  pub tied : foremost (plain (λ _. 7)) (record {
    g = λ _. 1;
    way = λ _. 0;
    before = λ _. 0;
    listed = λ p. (p == 3) || (p == 5);
    closed = λ _. false;
    expansions = 0;
    reopenings = 0;
  }) 8 ≡ 3
