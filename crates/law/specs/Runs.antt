-- A run, its opening and its calls.
use Rattle.std.specs.Prelude.{◌≡◌, ℕ, suc, ◌+◌, ◌-◌, ◌<◌, ◌≤◌, Bool, true, false, cond, ◌⊎◌, List, [], ◌∷◌, length, replicate, MatchBool, ◌==◌, nat_le, nat_lt, slice_set}
use Rattle.chart.specs.Chart.{Plan}
use Rattle.ltlf.specs.Ltlf.{Ltlf, top as truth}
use Rattle.law.specs.Grounds.{Land, Ground, Live}
use Rattle.law.specs.Guides.{dead, at, live, Agrees}
use Rattle.law.specs.Searches.{Search, begin, searched, f, plain, top, ways, Updated}
use Rattle.law.specs.Charts.{Machine, machine_of, leg, letter, pair, station, state, land, ground_of}

-- What stays as it is throughout a run: the task's formula and how many letters there are, the chart, the start station,
-- and how many expansions a decision may make.
pub record Site : Type 0 where
  pub formula : Ltlf
  pub letters : ℕ
  pub chart : Plan
  pub start : ℕ
  pub lookahead : ℕ

-- The task's machine.
abbrev pub machine : Site → Machine
machine v = machine_of v.formula v.letters

-- The pairs of the chart's stations and the machine's states, and the legs between them.
abbrev pub land_of : Site → Land
land_of v = land (machine v) v.chart

-- A run: its site, the pair where it is, the guide, the drag sheet (for each leg the excess over its seconds), the legs left
-- of the plan, the moves so far and the seconds paid for them.
pub record Run : Type 0 where
  pub site : Site
  pub here : ℕ
  pub guide : List ℕ
  pub drags : List ℕ
  pub plan : List ℕ
  pub moves : ℕ
  pub paid : ℕ

-- The same at today's times.
abbrev pub ground_now : Run → Ground
ground_now r = ground_of (machine r.site) r.site.chart r.drags

-- Whether the guide has a pair marked as live.
abbrev pub alive : Run → ℕ → Bool
alive r p = live (at r.guide p)

-- Arrived: here is a goal.
abbrev pub arrived : Run → Bool
arrived r = (land_of r.site).goal r.here

-- OPENING

-- A run that was never opened: no station, no leg, no live pair, and arrived, since the formula holds of every letter.
abbrev pub blank : Run
blank = record {
  site = record { formula = truth; letters = 1; chart = record { letters = []; legs = [] }; start = 0; lookahead = 0 };
  here = 0;
  guide = [];
  drags = [];
  plan = [];
  moves = 0;
  paid = 0;
}

-- The start pair: the start station and the state after its letter.
abbrev pub entry : Site → ℕ
entry v = pair (machine v) v.start ((machine v).first (letter v.chart v.start))

-- The drag sheet when a run opens: no excess.
abbrev pub no_drags : Site → List ℕ
no_drags v = replicate (length v.chart.legs) 0

-- The ground when a run opens: each leg takes its own seconds.
abbrev pub fresh : Site → Ground
fresh v = ground_of (machine v) v.chart (no_drags v)

-- The run when it has opened with a guide.
abbrev pub opened : Site → List ℕ → Run
opened v guide = record { site = v; here = entry v; guide = guide; drags = no_drags v; plan = []; moves = 0; paid = 0 }

-- An opening asks four questions, one after the other.
pub data Question : Type 0 where
  starts reads lives agrees : Question

-- The number with which a no refuses. (13, for memory that is too short, is not asked of lists.)
abbrev pub number : Question → ℕ
number starts = 11
number reads = 12
number lives = 14
number agrees = 15

-- What is asked: whether the start is a station and the lookahead 1 to 1,024; whether each station's letter is one of the
-- letters; whether the start pair is live; whether the first guide agrees.
abbrev pub Asks : Site → List ℕ → Question → Type 0
Asks v first starts = (v.start < length v.chart.letters) × (1 ≤ v.lookahead) × (v.lookahead ≤ 1024)
Asks v first reads = (t : ℕ) → t < length v.chart.letters → letter v.chart t < v.letters
Asks v first lives = Live (land_of v) (entry v)
Asks v first agrees = Agrees (fresh v) (at first)

-- A first guide as an opening leaves it: live pairs keep their number, the others get the dead mark.
pub record Marked (L : Land) (first guide : List ℕ) : Type 0 where
  pub long : length guide ≡ L.pairs
  pub each : (p : ℕ) → p < L.pairs → (Live L p × (at guide p ≡ at first p)) ⊎ ((Live L p → ⊥) × (at guide p ≡ dead))

-- An opening with a first guide succeeds and leaves the run r.
abbrev pub Opens : Site → List ℕ → Run → Type 0
Opens v first r = ((q : Question) → Asks v first q) × (guide : List ℕ) × Marked (land_of v) first guide × (r ≡ opened v guide)

-- It is refused, with the number of the first no.
abbrev pub Refuses : Site → List ℕ → ℕ → Type 0
Refuses v first n =
    (q : Question) × (n ≡ number q) × (Asks v first q → ⊥) × ((p : Question) → number p < number q → Asks v first p)

-- CALLS

-- Decide, move, or drag a leg to a time.
pub data Call : Type 0 where
  decide : Call
  move : Call
  drag : ℕ → ℕ → Call

-- What a call answers.
pub data Answer : Type 0 where
  -- expansions, reopenings, legs of the plan, the top's f
  decided : ℕ → ℕ → ℕ → ℕ → Answer
  -- station, state, seconds paid so far
  moved : ℕ → ℕ → ℕ → Answer
  -- leg and time
  dragged : ℕ → ℕ → Answer
  -- the number of the refusal
  refused : ℕ → Answer

-- Whether a plan has no leg left.
abbrev pub empty : List ℕ → Bool
empty [] = true
empty (l ∷ ls) = false

-- A plan's next leg.
abbrev pub lead : List ℕ → ℕ
lead [] = 0
lead (l ∷ ls) = l

-- What is left of a plan after that.
abbrev pub rest : List ℕ → List ℕ
rest [] = []
rest (l ∷ ls) = ls

-- The number with which a call is refused, or 0. A decision: 16 once arrived, 17 with a leg left of the plan. A move: 16 once
-- arrived, 18 with no leg left. A drag: 19 if there is no such leg, 20 unless its time today is below the new one, 21 if that
-- is over 1,000.
abbrev pub refusal : Run → Call → ℕ
refusal r decide = cond (arrived r) 16 (cond (empty r.plan) 0 17)
refusal r move = cond (arrived r) 16 (cond (empty r.plan) 18 0)
refusal r (drag l w) =
    cond (nat_lt l (length r.site.chart.legs)) (cond (nat_lt ((ground_now r).time l) w) (cond (nat_le w 1000) 0 21) 20) 19

-- The search of a decision.
abbrev pub search_of : Run → Search
search_of r = searched (ground_now r) (alive r) (plain (at r.guide)) r.site.lookahead (begin r.here)

-- Its top.
abbrev pub top_of : Run → ℕ
top_of r = top (ground_now r) (plain (at r.guide)) (search_of r)

-- Its plan: the legs from here to the top.
abbrev pub plan_of : Run → List ℕ
plan_of r = ways (search_of r) r.here (search_of r).expansions (top_of r) []

-- A guide that a decision leaves.
abbrev pub Renews : Run → List ℕ → Type 0
Renews r guide = (length guide ≡ length r.guide) × Updated (ground_now r) (search_of r) (at r.guide) (at guide)

-- The run after a decision that leaves a guide.
abbrev pub after_decide : Run → List ℕ → Run
after_decide r guide = record {
  site = r.site;
  here = r.here;
  guide = guide;
  drags = r.drags;
  plan = plan_of r;
  moves = r.moves;
  paid = r.paid;
}

-- The run once leg l is walked, with the legs ls left of the plan.
abbrev pub walked : Run → ℕ → List ℕ → Run
walked r l ls = record {
  site = r.site;
  here = (land_of r.site).to r.here l;
  guide = r.guide;
  drags = r.drags;
  plan = ls;
  moves = suc r.moves;
  paid = r.paid + (ground_now r).time l;
}

-- The run after a move: the plan's next leg is walked.
abbrev pub after_move : Run → Run
after_move r = walked r (lead r.plan) (rest r.plan)

-- The run once the time of leg l is w: the plan is given up.
abbrev pub after_drag : Run → ℕ → ℕ → Run
after_drag r l w = record {
  site = r.site;
  here = r.here;
  guide = r.guide;
  drags = slice_set r.drags l (w - (leg r.site.chart l).seconds);
  plan = [];
  moves = r.moves;
  paid = r.paid;
}

-- What a call that is carried out answers, and the run after it.
abbrev pub Carries : Run → Call → Answer → Run → Type 0
Carries r decide a r' =
    (guide : List ℕ) × Renews r guide × (r' ≡ after_decide r guide) ×
    (a ≡ decided (search_of r).expansions (search_of r).reopenings (length (plan_of r)) (f (at r.guide) (search_of r) (top_of r)))
Carries r move a r' =
    (r' ≡ after_move r) ×
    (a ≡ moved (station (machine r.site) (after_move r).here) (state (machine r.site) (after_move r).here) (after_move r).paid)
Carries r (drag l w) a r' = (r' ≡ after_drag r l w) × (a ≡ dragged l w)

-- A call with its answer and the run after it: carried out, or refused with nothing changed.
abbrev pub Does : Run → Call → Answer → Run → Type 0
Does r c a r' = MatchBool (refusal r c == 0) (Carries r c a r') ((r' ≡ r) × (a ≡ refused (refusal r c)))

-- Calls one after another, with their answers and the run after them.
abbrev pub After : Run → List Call → List Answer → Run → Type 0
After r [] [] r' = r' ≡ r
After r [] (a ∷ ans) r' = ⊥
After r (c ∷ cs) [] r' = ⊥
After r (c ∷ cs) (a ∷ ans) r' = (r₁ : Run) × Does r c a r₁ × After r₁ cs ans r'

-- The stations that moves answered.
abbrev pub stations : List Answer → List ℕ
stations [] = []
stations (decided e o n f ∷ ans) = stations ans
stations (moved s q paid ∷ ans) = s ∷ stations ans
stations (dragged l w ∷ ans) = stations ans
stations (refused n ∷ ans) = stations ans
