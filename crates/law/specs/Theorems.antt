-- What is proved of runs, in the subject's words.
use Rattle.std.specs.Prelude.{◌≡◌, ℕ, ◌<◌, ◌≤◌, List, length, Decides}
use Rattle.chart.specs.Chart.{Within}
use Rattle.ltlf.specs.Numbering.{states}
use Rattle.law.specs.Grounds.{Live}
use Rattle.law.specs.Guides.{at}
use Rattle.law.specs.Runs.{Site, land_of, Run, alive, Opens, Refuses, Call, Answer, decide, decided, refusal, Does, After, stations}
use Rattle.law.specs.Law.{Law}

-- The limits: those of the chart, and at most 64 states over the letters.
pub record Limits (v : Site) : Type 0 where
  pub charted : Within v.chart
  pub few : length (states v.formula v.letters) ≤ 64

-- P holds of every run: whatever its site within the limits and its first guide, when it has opened and after each call.
abbrev pub Always : (Site → List ℕ → Run → List ℕ → Type 0) → Type 0
Always P = (v : Site) → Limits v → (first : List ℕ) (r₀ : Run) → Opens v first r₀ →
    (cs : List Call) (ans : List Answer) (r : Run) → After r₀ cs ans r → P v first r (stations ans)

-- The law of whole runs holds.
abbrev pub RunsLawful : Type 0
RunsLawful = Always Law

-- The site stays.
abbrev pub SitesStay : Type 0
SitesStay = Always (λ v first r ts. r.site ≡ v)

-- The guide has the dead mark at each pair that is not live, and at no other.
abbrev pub GuidesMark : Type 0
GuidesMark = Always (λ v first r ts. (p : ℕ) → p < (land_of v).pairs → Decides (alive r p) (Live (land_of v) p))

-- There are as many moves as stations answered, and each is paid for.
abbrev pub MovesCounted : Type 0
MovesCounted = Always (λ v first r ts. (r.moves ≡ length ts) × (r.moves ≤ r.paid))

-- Every call is answered.
abbrev pub CallsAnswered : Type 0
CallsAnswered = Always (λ v first r ts. (d : Call) → (a : Answer) × (r' : Run) × Does r d a r')

-- A decision reopens nothing, plans at least one leg and at most as many as the lookahead, and answers the guide here
-- afterwards.
abbrev pub DecisionsPlan : Type 0
DecisionsPlan = Always (λ v first r ts. (e o n f : ℕ) (r' : Run) → refusal r decide ≡ 0 → Does r decide (decided e o n f) r'
    → (o ≡ 0) × (1 ≤ n) × (n ≤ v.lookahead) × (at r'.guide r.here ≡ f))

-- An opening that succeeds leaves one run.
abbrev pub OpeningDetermined : Type 0
OpeningDetermined = (v : Site) (first : List ℕ) (r₁ r₂ : Run) → Opens v first r₁ → Opens v first r₂ → r₁ ≡ r₂

-- An opening that is refused does not succeed, and is refused with one number.
abbrev pub RefusalsDetermined : Type 0
RefusalsDetermined = (v : Site) (first : List ℕ) (n₁ n₂ : ℕ) → Refuses v first n₁ →
    ((r : Run) → Opens v first r → ⊥) × (Refuses v first n₂ → n₁ ≡ n₂)

-- A call has one answer, and one run after it.
abbrev pub CallsDetermined : Type 0
CallsDetermined = (r r₁ r₂ : Run) (c : Call) (a₁ a₂ : Answer) → Does r c a₁ r₁ → Does r c a₂ r₂ → (r₁ ≡ r₂) × (a₁ ≡ a₂)
