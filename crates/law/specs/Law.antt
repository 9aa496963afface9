-- The law of whole runs.
use Rattle.std.specs.Prelude.{◌≡◌, ℕ, ◌+◌, ◌-◌, ◌*◌, ◌<◌, ◌≤◌, true, false, ◌⊎◌, List, ◌∷◌, length, take, Decides}
use Rattle.ltlf.specs.Ltlf.{Satisfies}
use Rattle.law.specs.Grounds.{Path, cost, dearest}
use Rattle.law.specs.Guides.{at, lives, total, over}
use Rattle.law.specs.Charts.{spelt, Joined}
use Rattle.law.specs.Runs.{Site, land_of, Run, ground_now, arrived, entry, Call, Answer, decide, move, refusal, Does}

-- A run at site v that opened with a first guide; it is r now, and ts are the stations that its moves answered.
pub record Law (v : Site) (first : List ℕ) (r : Run) (ts : List ℕ) : Type 0 where
  -- seconds paid plus the guide here are at most what the guide has gained on the first, plus the first guide at the start
  pub saved : r.paid + at r.guide r.here + over r.guide first ≤ total r.guide + at first (entry v)
  -- no call lowers a guide number
  pub rises : (d : Call) (a : Answer) (r' : Run) → Does r d a r' → (p : ℕ) → at r.guide p ≤ at r'.guide p
  -- at a live pair the guide is at most the least seconds still needed
  pub admissible : (p q : ℕ) (ls : List ℕ) → p < (land_of v).pairs → Path (land_of v) p ls q → (land_of v).goal q ≡ true
      → at r.guide p ≤ cost (ground_now r) ls
  -- before arrival exactly one of decide and move would be carried out
  pub one_next : arrived r ≡ false
      → ((refusal r decide ≡ 0) × (refusal r move ≡ 18)) ⊎ ((refusal r decide ≡ 17) × (refusal r move ≡ 0))
  -- seconds paid are at most (N − 1)² × C, with N live pairs and C the dearest leg today
  pub ceiling : r.paid ≤ (lives r.guide - 1) * (lives r.guide - 1) * dearest (ground_now r) (land_of v).legs
  -- the start and the stations answered form a path of the chart
  pub path : Joined v.chart (v.start ∷ ts)
  -- arrived exactly when their letters satisfy the formula
  pub arrival : Decides (arrived r) (Satisfies (spelt v.chart (v.start ∷ ts)) v.formula)
  -- and those of no shorter beginning do
  pub first_arrival : (n : ℕ) → 0 < n → n < length (v.start ∷ ts)
      → Satisfies (spelt v.chart (take n (v.start ∷ ts))) v.formula → ⊥
