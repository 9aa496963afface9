-- The guide after a decision, and the plan.
use Rattle.std.proofs.Common.{◌≡◌, ℕ, zero, suc, ◌+◌, ◌<◌, ◌≤◌, Bool, true, false, eqb, List, [], ◌∷◌, length, Decides, sym, refl, ap, ◌∙◌, subst, inl, inr, ⊎_elim, arith}
use Rattle.std.proofs.lemmas.Bool.{cases_Bool, both_ways, cond_both, eqb-true, eqb-false}
use Rattle.law.specs.Grounds.{Ground, cost, Live}
use Rattle.law.specs.Guides.{Agrees}
use Rattle.law.specs.Searches.{Search, f, plain, top, ways, Through, Updated}
use Rattle.law.proofs.Paths.{Sound}
use Rattle.law.proofs.Searching.{Seen, WayIn, Whole, top_listed, top_least}

-- the guide falls along the legs by just what they take
abbrev pub Tight : Ground → (ℕ → ℕ) → ℕ → List ℕ → Type 0
Tight G h p [] = Unit {0}
Tight G h p (l ∷ ls) = (G.land.leaves p l ≡ true) × Live G.land (G.land.to p l) × (h p ≡ G.time l + h (G.land.to p l)) × Tight G h (G.land.to p l) ls

module _ (G : Ground) (h : ℕ → ℕ) (here : ℕ) (sound : Sound G) (agrees : Agrees G h) (alive : ℕ → Bool) (marks : (p : ℕ) → p < G.land.pairs → Decides (alive p) (Live G.land p))
    (s : Search) (whole : Whole G h here false s) (h' : ℕ → ℕ) (up : Updated G s h h') where
  seen_head : (ls : List ℕ) (p o : ℕ) → Through G.land s p ls o → Seen s p
  seen_head [] p o t = inl t.0
  seen_head (l ∷ ls) p o t = inr t.0

  -- what a pair listed costs from a pair, through closed ones
  g_along : (ls : List ℕ) (p o : ℕ) → Through G.land s p ls o → s.g o ≤ s.g p + cost G ls
  g_along [] p o t = omega (arith, ap s.g t.1)
  g_along (l ∷ ls) p o t =
      let lf = (whole.within _ (seen_head ls _ o t.2)).1 in
      omega (arith, g_along ls (G.land.to p l) o t.2, (whole.done p l t.0 (λ _. sound.counted p l t.1) t.1 lf).1)

  h_along : (ls : List ℕ) (p o : ℕ) → Through G.land s p ls o → h p ≤ cost G ls + h o
  h_along [] p o t = omega (arith, ap h t.1)
  h_along (l ∷ ls) p o t =
      let lf = (whole.within _ (seen_head ls _ o t.2)).1 in
      omega (arith, h_along ls (G.land.to p l) o t.2, agrees.legs p l (whole.within p (inr t.0)).0 t.1 lf)

  at_end : (ls : List ℕ) (p o : ℕ) → Through G.land s p ls o → s.listed o ≡ true
  at_end [] p o t = ap s.listed (sym t.1) ∙ t.0
  at_end (l ∷ ls) p o t = at_end ls (G.land.to p l) o t.2

  listed_keeps : (p : ℕ) → s.listed p ≡ true → h' p ≡ h p
  listed_keeps p a = up.kept p (whole.apart p a)

  F : ℕ
  F = f h s (top G (plain h) s)

  -- no seen pair promises less than the top
  no_less : (p : ℕ) → Seen s p → F ≤ s.g p + h' p
  unfolding F
  no_less p seen = ⊎_elim
      (λ (a : s.listed p ≡ true). omega (arith, listed_keeps p a, top_least G h here sound agrees alive marks false s whole p a))
      (λ (c : s.closed p ≡ true).
      let r = up.reached p c in
      omega (arith, r.3, g_along r.0 p r.1 r.2, top_least G h here sound agrees alive marks false s whole r.1 (at_end r.0 p r.1 r.2)))
      seen

  step_back : (p l : ℕ) → s.closed p ≡ true → G.land.leaves p l ≡ true → Seen s (G.land.to p l) → h' p ≤ G.time l + h' (G.land.to p l)
  step_back p l c lv seen = ⊎_elim
      (λ (a : s.listed (G.land.to p l) ≡ true). omega (arith, up.lowest p (G.land.to p l) (l ∷ []) c (c, lv, (a, refl)), listed_keeps _ a))
      (λ (d : s.closed (G.land.to p l) ≡ true).
      let r = up.reached (G.land.to p l) d in
      omega (arith, up.lowest p r.1 (l ∷ r.0) c (c, lv, r.2), r.3))
      seen

  pub rises : (p : ℕ) → h p ≤ h' p
  rises p = ⊎_elim
      (λ (c : s.closed p ≡ true). let r = up.reached p c in omega (arith, r.3, h_along r.0 p r.1 r.2))
      (λ (c : s.closed p ≡ false). omega (arith, up.kept p c))
      (cases_Bool (s.closed p))

  pub agrees_after : Agrees G h'
  agrees_after = record {
    goals = λ p lt g. ⊎_elim
        (λ (c : s.closed p ≡ true). absurd (both_ways _ (whole.no_goal p c) g))
        (λ (c : s.closed p ≡ false). up.kept p c ∙ agrees.goals p lt g)
        (cases_Bool (s.closed p));
    legs = λ p l lt lv lf. ⊎_elim
        (λ (c : s.closed p ≡ true). step_back p l c lv (whole.done p l c (λ _. sound.counted p l lv) lv lf).0)
        (λ (c : s.closed p ≡ false). omega (arith, up.kept p c, agrees.legs p l lt lv lf, rises (G.land.to p l)))
        (cases_Bool (s.closed p));
  }

  -- the legs lead on from p, which is on a way from here to the top
  abbrev Leads : ℕ → ℕ → List ℕ → Type 0
  Leads lo hi ls = Tight G h' here ls × (lo ≤ length ls) × (length ls ≤ hi) × (h' here ≡ F)

  abbrev On : ℕ → List ℕ → Type 0
  On p legs = (s.g p + h' p ≡ F) × Tight G h' p legs

  -- back by one way in
  back : (p : ℕ) (legs : List ℕ) → Seen s p → WayIn G h here s whole.rank p → On p legs → On (s.before p) (s.way p ∷ legs)
  back p legs seen v on =
      let to = v.comes in
      let at = subst (Seen s) (sym to) seen in
      let lo = no_less (s.before p) (inr v.from) in
      let hi = step_back (s.before p) (s.way p) v.from v.leaves at in (
        omega (arith, lo, hi, v.adds, ap h' to, on.0),
        (v.leaves, subst (Live G.land) (sym to) (whole.within p seen).1, omega (arith, lo, hi, v.adds, ap h' to, on.0), subst (λ (x : ℕ). Tight G h' x legs) (sym to) on.1),
      )

  arrive : (p : ℕ) (legs : List ℕ) → p ≡ here → On p legs → (lo hi : ℕ) → lo ≤ length legs → length legs ≤ hi → Leads lo hi legs
  arrive p legs e on lo hi a b = (subst (λ (x : ℕ). Tight G h' x legs) e on.1, a, b, omega (arith, on.0, ap s.g e, ap h' e, whole.home))

  chain : (n p : ℕ) (legs : List ℕ) → s.closed p ≡ true → whole.rank p ≤ n → On p legs
      → Leads (length legs) (n + length legs) (ways s here n p legs)
  chain zero p legs c le on = ⊎_elim
      (λ (e : p ≡ here). arrive p legs e on (length legs) (0 + length legs) (omega arith) (omega arith))
      (λ (v : WayIn G h here s whole.rank p). absurd (omega (arith, v.later c, le)))
      (whole.ways p (inr c))
  chain (suc n) p legs c le on =
      cond_both (eqb p here) legs (ways s here n (s.before p) (s.way p ∷ legs)) (Leads (length legs) (suc n + length legs))
      (λ e. arrive p legs (eqb-true p here e) on (length legs) (suc n + length legs) (omega arith) (omega arith))
      (λ e. ⊎_elim
      (λ (is : p ≡ here). absurd (eqb-false p here e is))
      (λ (v : WayIn G h here s whole.rank p).
      let r = chain n (s.before p) (s.way p ∷ legs) v.from (omega (arith, v.later c, le)) (back p legs (inr c) v on) in
      (r.0, omega (arith, r.1), omega (arith, r.2), r.3))
      (whole.ways p (inr c)))

  planned : (n : ℕ) → s.expansions ≡ n → Leads 1 n (ways s here n (top G (plain h) s) [])
  unfolding F
  planned zero e = absurd (omega (arith, whole.ranks here whole.start, e))
  planned (suc n) e =
      let t = top G (plain h) s in
      let a = top_listed G h here sound agrees alive marks false s whole in
      let on : On t [] = (omega (arith, listed_keeps t a), tt) in
      let off : t ≡ here → ⊥ = λ is. both_ways _ (whole.apart t a) (ap s.closed is ∙ whole.start) in
      cond_both (eqb t here) [] (ways s here n (s.before t) (s.way t ∷ [])) (Leads 1 (suc n))
      (λ is. absurd (off (eqb-true t here is)))
      (λ _. ⊎_elim
      (λ (is : t ≡ here). absurd (off is))
      (λ (v : WayIn G h here s whole.rank t).
      let r = chain n (s.before t) (s.way t ∷ []) v.from (omega (arith, whole.ranks _ v.from, e)) (back t [] (inl a) v on) in
      (r.0, omega (arith, r.1), omega (arith, r.2), r.3))
      (whole.ways t (inl a)))

  pub plan_tight : Tight G h' here (ways s here s.expansions (top G (plain h) s) [])
  plan_tight = (planned s.expansions refl).0

  pub plan_some : 1 ≤ length (ways s here s.expansions (top G (plain h) s) [])
  plan_some = (planned s.expansions refl).1

  pub plan_short : length (ways s here s.expansions (top G (plain h) s) []) ≤ s.expansions
  plan_short = (planned s.expansions refl).2

  pub here_is : h' here ≡ f h s (top G (plain h) s)
  unfolding F
  here_is = (planned s.expansions refl).3
