-- One call more, and the numbers of a run.
use Rattle.std.proofs.Common.{ℕ, ◌-◌, ◌*◌, ◌^◌, ◌<◌, ◌≤◌, false, List, [], ◌∷◌, ◌++◌, length, refl, subst, arith}
use Rattle.std.proofs.lemmas.Nat.{mul-le}
use Rattle.std.proofs.lemmas.List.Sums.{count_by-le-length}
use Rattle.law.specs.Grounds.{Live, dearest}
use Rattle.law.specs.Guides.{at, live, lives, Agrees}
use Rattle.law.specs.Searches.{Search, f, plain, top}
use Rattle.law.specs.Runs.{machine, land_of, Run, ground_now, alive, Call, Answer, Does, After}
use Rattle.law.proofs.Paths.{bounded}
use Rattle.law.proofs.Searching.{Seen, Whole}
use Rattle.law.proofs.Bounding.{top_fits, seen_fits}
use Rattle.law.proofs.Grounding.{dear}
use Rattle.law.proofs.Keeping.{Inv, ground_sound}
use Rattle.law.proofs.Lawful.{ceiling}

-- a call at the end of a history
pub after_more : (cs : List Call) (ans : List Answer) (r₀ r r' : Run) (c : Call) (a : Answer) → After r₀ cs ans r → Does r c a r'
    → After r₀ (cs ++ c ∷ []) (ans ++ a ∷ []) r'
after_more [] [] r₀ r r' c a h d = (r', subst (λ (x : Run). Does x c a r') h d, refl)
after_more [] (b ∷ ans) r₀ r r' c a h d = absurd h
after_more (b ∷ cs) [] r₀ r r' c a h d = absurd h
after_more (b ∷ cs) (e ∷ ans) r₀ r r' c a h d = (h.0, h.1, after_more cs ans h.0 r r' c a h.2 d)

module _ (r₀ r : Run) (ts : List ℕ) (i : Inv r₀ r ts) where
  few : lives r.guide - 1 ≤ 16383
  few = omega (arith, count_by-le-length live r.guide, i.long, i.fits.pairs)

  cheap : dearest (ground_now r) (land_of r.site).legs ≤ 1000
  cheap = dear (machine r.site) r.site.chart i.fits i.letters r.drags (length r.site.chart.legs) i.times

  -- any agreeing guide is small at live pairs
  pub guide_small : (h : ℕ → ℕ) → Agrees (ground_now r) h → (p : ℕ) → p < (land_of r.site).pairs → Live (land_of r.site) p → h p ≤ 16383000
  guide_small h agrees p lt lf =
      omega (arith, bounded (ground_now r) (ground_sound r₀ r ts i) r.guide (λ x a. (i.marks x a).1) h agrees p lt lf, mul-le (lives r.guide - 1) (dearest (ground_now r) (land_of r.site).legs) 16383 1000 few cheap)

  pub paid_small : r.paid < 2 ^ 64
  paid_small =
      let n = lives r.guide - 1 in
      omega (arith, ceiling r₀ r ts i, mul-le (n * n) (dearest (ground_now r) (land_of r.site).legs) (16383 * 16383) 1000 (mul-le n n 16383 16383 few few) cheap)

  -- and so are the numbers of a search, at each step
  module _ (x : Search) (whole : Whole (ground_now r) (at r.guide) r.here false x) where
    pub f_small : f (at r.guide) x (top (ground_now r) (plain (at r.guide)) x) ≤ 16383000
    f_small = top_fits (ground_now r) (at r.guide) r.here (ground_sound r₀ r ts i) i.agrees (alive r) i.marks x whole 16383000
        (λ h' a. guide_small h' a r.here i.low i.living)

    pub g_small : (q : ℕ) → Seen x q → x.g q ≤ 16384000
    g_small q seen = omega (
      arith,
      cheap,
      seen_fits (ground_now r) (at r.guide) r.here (ground_sound r₀ r ts i) i.agrees (alive r) i.marks x whole 16383000
          (λ h' a. guide_small h' a r.here i.low i.living) q seen,
    )
