-- The numbers of a search stay small, at each of its steps.
use Rattle.std.proofs.Common.{◌≡◌, ℕ, ◌+◌, ◌<◌, ◌≤◌, Bool, true, false, Decides, ap, ⊎_elim, arith}
use Rattle.law.specs.Grounds.{Ground, Live, dearest}
use Rattle.law.specs.Guides.{Agrees}
use Rattle.law.specs.Searches.{Search, f, plain, top}
use Rattle.law.proofs.Paths.{Sound, dearest_le}
use Rattle.law.proofs.Searching.{Seen, WayIn, Whole, top_listed}
use Rattle.law.proofs.Updating.{agrees_after, here_is}
use Rattle.law.proofs.Existing.{after}

module _ (G : Ground) (h : ℕ → ℕ) (here : ℕ) (sound : Sound G) (agrees : Agrees G h) (alive : ℕ → Bool) (marks : (p : ℕ) → p < G.land.pairs → Decides (alive p) (Live G.land p))
    (s : Search) (whole : Whole G h here false s) (bound : ℕ) (cap : (h' : ℕ → ℕ) → Agrees G h' → h' here ≤ bound) where
  -- were the search to stop here, the guide would be the top's f, and would agree
  pub top_fits : f h s (top G (plain h) s) ≤ bound
  top_fits =
      let u = after G h here sound s whole in
      omega (arith, here_is G h here sound agrees alive marks s whole u.0 u.1, cap u.0 (agrees_after G h here sound agrees alive marks s whole u.0 u.1))

  pub closed_fits : (p : ℕ) → s.closed p ≡ true → f h s p ≤ bound
  closed_fits p c = omega (arith, top_fits, whole.order p (top G (plain h) s) c (top_listed G h here sound agrees alive marks false s whole))

  pub seen_fits : (q : ℕ) → Seen s q → s.g q ≤ bound + dearest G G.land.legs
  seen_fits q seen = ⊎_elim
      (λ (e : q ≡ here). omega (arith, ap s.g e, whole.home))
      (λ (v : WayIn G h here s whole.rank q).
      omega (arith, v.adds, closed_fits (s.before q) v.from, dearest_le G G.land.legs (s.way q) (sound.counted _ _ v.leaves)))
      (whole.ways q seen)
