-- What the search keeps.
use Rattle.std.proofs.Common.{◌≡◌, ℕ, zero, suc, ◌+◌, ◌<◌, ◌≤◌, Bool, true, false, cond, not, ◌&&◌, ◌||◌, ltb, ◌⊎◌, List, [], ◌∷◌, Decides, sym, refl, ap, ◌∙◌, subst, inl, inr, ⊎_elim, arith}
use Rattle.std.proofs.lemmas.Bool.{cases_eq, cases_Bool, both_ways, cond_both, and_parts, and_cases, or_cases, or_parts, ltb-true, ltb-false, not-true, not-false, cond-false}
use Rattle.law.specs.Grounds.{Ground, Path, Live}
use Rattle.law.specs.Guides.{Agrees}
use Rattle.law.specs.Searches.{Search, put, begin, f, plain, top, gains, gained, followed, taken, expanded, searched}
use Rattle.law.proofs.Paths.{Sound}
use Rattle.law.proofs.Tops.{put_same, put_other, top_is}

abbrev pub Seen : Search → ℕ → Type 0
Seen s q = (s.listed q ≡ true) ⊎ (s.closed q ≡ true)

module _ (G : Ground) (h : ℕ → ℕ) (here : ℕ) where
  -- the way in to q
  pub record WayIn (s : Search) (rank : ℕ → ℕ) (q : ℕ) : Type 0 where
    pub from : s.closed (s.before q) ≡ true
    pub leaves : G.land.leaves (s.before q) (s.way q) ≡ true
    pub comes : G.land.to (s.before q) (s.way q) ≡ q
    pub adds : s.g q ≡ s.g (s.before q) + G.time (s.way q)
    pub later : s.closed q ≡ true → rank (s.before q) < rank q

  -- before the first expansion only here is listed, and after it here is closed
  abbrev pub Start : Bool → Search → Type 0
  Start true s = (x : ℕ) → s.listed x ≡ true → x ≡ here
  Start false s = s.closed here ≡ true

  -- the legs of closed pairs are followed, of t those below n
  pub record Sought (new : Bool) (t n : ℕ) (s : Search) : Type 0 where
    pub rank : ℕ → ℕ
    pub home : s.g here ≡ 0
    pub home_seen : Seen s here
    pub start : Start new s
    pub within : (q : ℕ) → Seen s q → (q < G.land.pairs) × Live G.land q
    pub apart : (q : ℕ) → s.listed q ≡ true → s.closed q ≡ false
    pub done : (p l : ℕ) → s.closed p ≡ true → (p ≡ t → l < n) → G.land.leaves p l ≡ true → Live G.land (G.land.to p l) →
        Seen s (G.land.to p l) × (s.g (G.land.to p l) ≤ s.g p + G.time l)
    pub ways : (q : ℕ) → Seen s q → (q ≡ here) ⊎ WayIn s rank q
    pub ranks : (q : ℕ) → s.closed q ≡ true → rank q < s.expansions
    pub order : (p q : ℕ) → s.closed p ≡ true → s.listed q ≡ true → f h s p ≤ f h s q
    pub no_goal : (p : ℕ) → s.closed p ≡ true → G.land.goal p ≡ false
    pub never : s.reopenings ≡ 0

  -- between expansions
  abbrev pub Whole : Bool → Search → Type 0
  Whole new s = Sought new here G.land.legs s

  -- while the legs of t are followed
  pub record Mid (t n : ℕ) (s : Search) : Type 0 where
    pub sought : Sought false t n s
    pub at_top : s.closed t ≡ true
    pub peak : (p : ℕ) → s.closed p ≡ true → f h s p ≤ f h s t

  module _ (sound : Sound G) (agrees : Agrees G h) (alive : ℕ → Bool) (marks : (p : ℕ) → p < G.land.pairs → Decides (alive p) (Live G.land p)) where
    -- a closed pair is never one that gains
    module _ (t n : ℕ) (s : Search) (mid : Mid t n s) (yes : gains G alive t s n ≡ true) where
      q : ℕ
      q = G.land.to t n

      gain_parts : ((G.land.leaves t n && alive q) ≡ true) × ((not (s.listed q || s.closed q) || ltb (s.g t + G.time n) (s.g q)) ≡ true)
      unfolding q
      gain_parts = and_parts _ _ yes

      leaves : G.land.leaves t n ≡ true
      leaves = (and_parts (G.land.leaves t n) (alive q) gain_parts.0).0

      t_low : t < G.land.pairs
      t_low = (mid.sought.within t (inr mid.at_top)).0

      q_low : q < G.land.pairs
      unfolding q
      q_low = sound.within t n t_low leaves

      q_live : Live G.land q
      q_live = (marks q q_low).0 (and_parts (G.land.leaves t n) (alive q) gain_parts.0).1

      -- a pair that has a g gets a smaller one
      smaller : Seen s q → s.g t + G.time n < s.g q
      smaller seen = ⊎_elim
          (λ (no : not (s.listed q || s.closed q) ≡ true).
          let r = or_parts (s.listed q) (s.closed q) (not-true _ no) in
          ⊎_elim (λ (a : s.listed q ≡ true). absurd (both_ways _ r.0 a)) (λ (a : s.closed q ≡ true). absurd (both_ways _ r.1 a)) seen)
          (λ (lt : ltb (s.g t + G.time n) (s.g q) ≡ true). ltb-true _ _ lt)
          (or_cases _ _ gain_parts.1)

      step : h t ≤ G.time n + h q
      unfolding q
      step = agrees.legs t n t_low leaves q_live

      q_open : s.closed q ≡ false
      q_open = ⊎_elim
          (λ (c : s.closed q ≡ true). absurd (omega (arith, smaller (inr c), mid.peak q c, step)))
          (λ (c : s.closed q ≡ false). c)
          (cases_Bool (s.closed q))

      closed_other : (p : ℕ) → s.closed p ≡ true → p ≡ q → ⊥
      closed_other p c e = both_ways (s.closed q) q_open (ap s.closed (sym e) ∙ c)

      here_other : here ≡ q → ⊥
      here_other e = omega (arith, smaller (subst (Seen s) e mid.sought.home_seen), ap s.g e, mid.sought.home)

      s' : Search
      s' = gained G t s n

      g_is : (p : ℕ) → (p ≡ q → ⊥) → s'.g p ≡ s.g p
      unfolding s' q
      g_is p ne = put_other s.g (G.land.to t n) (s.g t + G.time n) p ne

      g_new : s'.g q ≡ s.g t + G.time n
      unfolding s' q
      g_new = put_same s.g (G.land.to t n) (s.g t + G.time n) (G.land.to t n) refl

      closed_is : (p : ℕ) → s'.closed p ≡ true → s.closed p ≡ true
      unfolding s' q
      closed_is p c = ⊎_elim
          (λ (e : p ≡ G.land.to t n). absurd (both_ways _ (put_same s.closed (G.land.to t n) false p e) c))
          (λ (ne : p ≡ G.land.to t n → ⊥). sym (put_other s.closed (G.land.to t n) false p ne) ∙ c)
          (cases_eq p (G.land.to t n))

      closed_kept : (p : ℕ) → s.closed p ≡ true → s'.closed p ≡ true
      unfolding s' q
      closed_kept p c = put_other s.closed (G.land.to t n) false p (closed_other p c) ∙ c

      listed_is : (p : ℕ) → s'.listed p ≡ true → (p ≡ q → ⊥) → s.listed p ≡ true
      unfolding s' q
      listed_is p c ne = sym (put_other s.listed (G.land.to t n) true p ne) ∙ c

      listed_new : (p : ℕ) → p ≡ q → s'.listed p ≡ true
      unfolding s' q
      listed_new p e = put_same s.listed (G.land.to t n) true p e

      seen_kept : (p : ℕ) → Seen s p → Seen s' p
      unfolding s' q
      seen_kept p seen = ⊎_elim
          (λ (e : p ≡ G.land.to t n). inl (listed_new p e))
          (λ (ne : p ≡ G.land.to t n → ⊥). ⊎_elim
          (λ (a : s.listed p ≡ true). inl (put_other s.listed (G.land.to t n) true p ne ∙ a))
          (λ (a : s.closed p ≡ true). inr (closed_kept p a))
          seen)
          (cases_eq p (G.land.to t n))

      seen_is : (p : ℕ) → Seen s' p → (p ≡ q → ⊥) → Seen s p
      seen_is p seen ne = ⊎_elim (λ (a : s'.listed p ≡ true). inl (listed_is p a ne)) (λ (a : s'.closed p ≡ true). inr (closed_is p a)) seen

      lower : (p : ℕ) → Seen s p → s'.g p ≤ s.g p
      lower p seen = ⊎_elim
          (λ (e : p ≡ q). omega (arith, smaller (subst (Seen s) e seen), g_new, ap s'.g e, ap s.g e))
          (λ (ne : p ≡ q → ⊥). omega (arith, g_is p ne))
          (cases_eq p q)

      way_new : WayIn s' mid.sought.rank q
      unfolding s' q
      way_new =
          let b : s'.before q ≡ t = put_same s.before (G.land.to t n) t (G.land.to t n) refl in
          let w : s'.way q ≡ n = put_same s.way (G.land.to t n) n (G.land.to t n) refl in
          record {
            from = ap s'.closed b ∙ closed_kept t mid.at_top;
            leaves = ap (λ (x : ℕ). G.land.leaves x (s'.way q)) b ∙ (ap (G.land.leaves t) w ∙ leaves);
            comes = ap (λ (x : ℕ). G.land.to x (s'.way q)) b ∙ ap (G.land.to t) w;
            adds = omega (arith, g_new, ap s'.g b, g_is t (closed_other t mid.at_top), ap G.time w);
            later = λ c. absurd (both_ways _ q_open (closed_is q c));
          }

      way_kept : (p : ℕ) → (p ≡ q → ⊥) → WayIn s mid.sought.rank p → WayIn s' mid.sought.rank p
      unfolding s' q
      way_kept p ne v =
          let b : s'.before p ≡ s.before p = put_other s.before (G.land.to t n) t p ne in
          let w : s'.way p ≡ s.way p = put_other s.way (G.land.to t n) n p ne in
          record {
            from = ap s'.closed b ∙ closed_kept (s.before p) v.from;
            leaves = ap (λ (x : ℕ). G.land.leaves x (s'.way p)) b ∙ (ap (G.land.leaves (s.before p)) w ∙ v.leaves);
            comes = ap (λ (x : ℕ). G.land.to x (s'.way p)) b ∙ (ap (G.land.to (s.before p)) w ∙ v.comes);
            adds = omega (arith, g_is p ne, v.adds, ap s'.g b, g_is (s.before p) (closed_other (s.before p) v.from), ap G.time w);
            later = λ c. omega (arith, v.later (closed_is p c), ap mid.sought.rank b);
          }

      gain : Mid t (suc n) s'
      unfolding s'
      gain = record {
        sought = record {
          rank = mid.sought.rank;
          home = g_is here here_other ∙ mid.sought.home;
          home_seen = seen_kept here mid.sought.home_seen;
          start = closed_kept here mid.sought.start;
          within = λ p seen. ⊎_elim
              (λ (e : p ≡ q). (omega (arith, q_low, e), subst (Live G.land) (sym e) q_live))
              (λ (ne : p ≡ q → ⊥). mid.sought.within p (seen_is p seen ne))
              (cases_eq p q);
          apart = λ p on. ⊎_elim
              (λ (c : s'.closed p ≡ true). let c' = closed_is p c in absurd (both_ways _ (mid.sought.apart p (listed_is p on (closed_other p c'))) c'))
              (λ (c : s'.closed p ≡ false). c)
              (cases_Bool (s'.closed p));
          done = λ p l c below lv lf.
              let c' = closed_is p c in
              let same = g_is p (closed_other p c') in
              ⊎_elim
              (λ (e : p ≡ t). ⊎_elim
              (λ (k : l ≡ n).
              let is : G.land.to p l ≡ q = to_is p l e k in
              (inl (listed_new (G.land.to p l) is), omega (arith, ap s'.g is, g_new, same, ap s.g e, ap G.time k)))
              (λ (k : l ≡ n → ⊥). let r = mid.sought.done p l c' (λ _. let b = below e in omega arith) lv lf in (seen_kept _ r.0, omega (arith, r.1, lower _ r.0, same)))
              (cases_eq l n))
              (λ (ne : p ≡ t → ⊥). let r = mid.sought.done p l c' (λ e. absurd (ne e)) lv lf in (seen_kept _ r.0, omega (arith, r.1, lower _ r.0, same)))
              (cases_eq p t);
          ways = λ p seen. ⊎_elim
              (λ (e : p ≡ q). inr (subst (WayIn s' mid.sought.rank) (sym e) way_new))
              (λ (ne : p ≡ q → ⊥). ⊎_elim (λ (a : p ≡ here). inl a) (λ (v : WayIn s mid.sought.rank p). inr (way_kept p ne v)) (mid.sought.ways p (seen_is p seen ne)))
              (cases_eq p q);
          ranks = λ p c. mid.sought.ranks p (closed_is p c);
          order = λ p x c on.
              let c' = closed_is p c in
              let same = g_is p (closed_other p c') in
              ⊎_elim
              (λ (e : x ≡ q). omega (arith, ap s'.g e, ap h e, g_new, step, mid.peak p c', same))
              (λ (ne : x ≡ q → ⊥). omega (arith, mid.sought.order p x c' (listed_is x on ne), same, g_is x ne))
              (cases_eq x q);
          no_goal = λ p c. mid.sought.no_goal p (closed_is p c);
          never = zero_more (q_open) mid.sought.never;
        };
        at_top = closed_kept t mid.at_top;
        peak = λ p c. let c' = closed_is p c in omega (arith, mid.peak p c', g_is p (closed_other p c'), g_is t (closed_other t mid.at_top));
      }
        where
          to_is : (p l : ℕ) → p ≡ t → l ≡ n → G.land.to p l ≡ q
          to_is p l e k = unfold q in (ap (λ (x : ℕ). G.land.to x l) e ∙ ap (G.land.to t) k)

          zero_more : s.closed q ≡ false → s.reopenings ≡ 0 → s'.reopenings ≡ 0
          zero_more c z = unfold q s' in omega (arith, ap (λ (b : Bool). cond {A = ℕ} b 1 0) c)

    -- a leg by which no pair gains
    module _ (t n : ℕ) (s : Search) (mid : Mid t n s) (no : gains G alive t s n ≡ false) where
      had : G.land.leaves t n ≡ true → Live G.land (G.land.to t n) → Seen s (G.land.to t n) × (s.g (G.land.to t n) ≤ s.g t + G.time n)
      had lv lf =
          let low = sound.within t n (mid.sought.within t (inr mid.at_top)).0 lv in
          let mark = (marks (G.land.to t n) low).1 lf in
          let q : ℕ = G.land.to t n in
          ⊎_elim
          (λ (a : (G.land.leaves t n && alive q) ≡ false). ⊎_elim
          (λ (b : G.land.leaves t n ≡ false). absurd (both_ways _ b lv))
          (λ (b : alive q ≡ false). absurd (both_ways _ b mark))
          (and_cases _ _ a))
          (λ (a : (not (s.listed q || s.closed q) || ltb (s.g t + G.time n) (s.g q)) ≡ false).
          let r = or_parts _ _ a in
          (or_cases (s.listed q) (s.closed q) (not-false _ r.0), ltb-false _ _ r.1))
          (and_cases _ _ no)

      stay : Mid t (suc n) s
      stay = record {
        sought = record {
          rank = mid.sought.rank;
          home = mid.sought.home;
          home_seen = mid.sought.home_seen;
          start = mid.sought.start;
          within = mid.sought.within;
          apart = mid.sought.apart;
          done = λ p l c below lv lf. ⊎_elim
              (λ (e : p ≡ t). ⊎_elim
              (λ (k : l ≡ n).
              let is : G.land.to p l ≡ G.land.to t n = ap (λ (x : ℕ). G.land.to x l) e ∙ ap (G.land.to t) k in
              let r = had (sym (ap (λ (x : ℕ). G.land.leaves x l) e ∙ ap (G.land.leaves t) k) ∙ lv) (subst (Live G.land) is lf) in
              (subst (Seen s) (sym is) r.0, omega (arith, r.1, ap s.g is, ap s.g e, ap G.time k)))
              (λ (k : l ≡ n → ⊥). mid.sought.done p l c (λ _. let b = below e in omega arith) lv lf)
              (cases_eq l n))
              (λ (ne : p ≡ t → ⊥). mid.sought.done p l c (λ e. absurd (ne e)) lv lf)
              (cases_eq p t);
          ways = mid.sought.ways;
          ranks = mid.sought.ranks;
          order = mid.sought.order;
          no_goal = mid.sought.no_goal;
          never = mid.sought.never;
        };
        at_top = mid.at_top;
        peak = mid.peak;
      }

    follow : (t : ℕ) (s : Search) → Mid t 0 s → (n : ℕ) → Mid t n (followed G alive t s n) × ((followed G alive t s n).expansions ≡ s.expansions)
    unfolding s'
    follow t s mid zero = (mid, refl)
    follow t s mid (suc n) =
        let s₁ = followed G alive t s n in
        let r = follow t s mid n in
        cond_both (gains G alive t s₁ n) (gained G t s₁ n) s₁ (λ (x : Search). Mid t (suc n) x × (x.expansions ≡ s.expansions))
        (λ yes. (gain t n s₁ r.0 yes, r.1))
        (λ no. (stay t n s₁ r.0 no, r.1))

    -- the top is taken off the list and closed
    module _ (new : Bool) (s : Search) (whole : Whole new s) (t : ℕ) (on : s.listed t ≡ true) (first : (x : ℕ) → s.listed x ≡ true → f h s t ≤ f h s x) (goal : G.land.goal t ≡ false) where
      s₁ : Search
      s₁ = taken t s

      rank₁ : ℕ → ℕ
      rank₁ = put whole.rank t s.expansions

      t_open : s.closed t ≡ false
      t_open = whole.apart t on

      was : (p : ℕ) → s₁.closed p ≡ true → (p ≡ t) ⊎ (s.closed p ≡ true)
      unfolding s₁
      was p c = ⊎_elim (λ (e : p ≡ t). inl e) (λ (ne : p ≡ t → ⊥). inr (sym (put_other s.closed t true p ne) ∙ c)) (cases_eq p t)

      still : (p : ℕ) → s.closed p ≡ true → s₁.closed p ≡ true
      unfolding s₁
      still p c = ⊎_elim (λ (e : p ≡ t). put_same s.closed t true p e) (λ (ne : p ≡ t → ⊥). put_other s.closed t true p ne ∙ c) (cases_eq p t)

      now_closed : (p : ℕ) → p ≡ t → s₁.closed p ≡ true
      unfolding s₁
      now_closed p e = put_same s.closed t true p e

      not_t : (p : ℕ) → s.closed p ≡ true → p ≡ t → ⊥
      not_t p c e = both_ways _ t_open (ap s.closed (sym e) ∙ c)

      listed_was : (p : ℕ) → s₁.listed p ≡ true → (s.listed p ≡ true) × (p ≡ t → ⊥)
      unfolding s₁
      listed_was p c = ⊎_elim
          (λ (e : p ≡ t). absurd (both_ways _ (put_same s.listed t false p e) c))
          (λ (ne : p ≡ t → ⊥). (sym (put_other s.listed t false p ne) ∙ c, ne))
          (cases_eq p t)

      seen_was : (p : ℕ) → Seen s₁ p → Seen s p
      seen_was p seen = ⊎_elim
          (λ (a : s₁.listed p ≡ true). inl (listed_was p a).0)
          (λ (a : s₁.closed p ≡ true). ⊎_elim (λ (e : p ≡ t). inl (ap s.listed e ∙ on)) (λ (c : s.closed p ≡ true). inr c) (was p a))
          seen

      seen_still : (p : ℕ) → Seen s p → Seen s₁ p
      unfolding s₁
      seen_still p seen = ⊎_elim
          (λ (e : p ≡ t). inr (now_closed p e))
          (λ (ne : p ≡ t → ⊥). ⊎_elim (λ (a : s.listed p ≡ true). inl (put_other s.listed t false p ne ∙ a)) (λ (a : s.closed p ≡ true). inr (still p a)) seen)
          (cases_eq p t)

      begun : (b : Bool) → Start b s → s₁.closed here ≡ true
      begun true only = now_closed here (sym (only t on))
      begun false c = still here c

      rank_was : (p : ℕ) → s.closed p ≡ true → rank₁ p ≡ whole.rank p
      unfolding rank₁
      rank_was p c = put_other whole.rank t s.expansions p (not_t p c)

      rank_new : (p : ℕ) → p ≡ t → rank₁ p ≡ s.expansions
      unfolding rank₁
      rank_new p e = put_same whole.rank t s.expansions p e

      taking : Mid t 0 s₁
      unfolding s₁
      taking = record {
        sought = record {
          rank = rank₁;
          home = whole.home;
          home_seen = seen_still here whole.home_seen;
          start = begun new whole.start;
          within = λ p seen. whole.within p (seen_was p seen);
          apart = λ p a. let r = listed_was p a in put_other s.closed t true p r.1 ∙ whole.apart p r.0;
          done = λ p l c below lv lf. ⊎_elim
              (λ (e : p ≡ t). let b = below e in absurd (omega arith))
              (λ (c' : s.closed p ≡ true). let r = whole.done p l c' (λ _. sound.counted p l lv) lv lf in (seen_still _ r.0, r.1))
              (was p c);
          ways = λ p seen. ⊎_elim
              (λ (a : p ≡ here). inl a)
              (λ (v : WayIn s whole.rank p). inr (record {
                from = still _ v.from;
                leaves = v.leaves;
                comes = v.comes;
                adds = v.adds;
                later = λ c. ⊎_elim
                    (λ (e : p ≡ t). omega (arith, rank_new p e, rank_was _ v.from, whole.ranks _ v.from))
                    (λ (c' : s.closed p ≡ true). omega (arith, rank_was p c', rank_was _ v.from, v.later c'))
                    (was p c);
              }))
              (whole.ways p (seen_was p seen));
          ranks = λ p c. ⊎_elim
              (λ (e : p ≡ t). omega (arith, rank_new p e))
              (λ (c' : s.closed p ≡ true). omega (arith, rank_was p c', whole.ranks p c'))
              (was p c);
          order = λ p x c a. ⊎_elim
              (λ (e : p ≡ t). omega (arith, first x (listed_was x a).0, ap (f h s) e))
              (λ (c' : s.closed p ≡ true). whole.order p x c' (listed_was x a).0)
              (was p c);
          no_goal = λ p c. ⊎_elim (λ (e : p ≡ t). ap G.land.goal e ∙ goal) (λ (c' : s.closed p ≡ true). whole.no_goal p c') (was p c);
          never = whole.never;
        };
        at_top = now_closed t refl;
        peak = λ p c. ⊎_elim (λ (e : p ≡ t). omega (arith, ap (f h s) e)) (λ (c' : s.closed p ≡ true). whole.order p t c' on) (was p c);
      }

      expanding : Whole false (expanded G alive t s) × ((expanded G alive t s).expansions ≡ suc s.expansions)
      unfolding s₁
      expanding =
          let r = follow t s₁ taking G.land.legs in
          let m = r.0.sought in (
            record {
              rank = m.rank;
              home = m.home;
              home_seen = m.home_seen;
              start = m.start;
              within = m.within;
              apart = m.apart;
              done = λ p l c below lv lf. m.done p l c (λ _. sound.counted p l lv) lv lf;
              ways = m.ways;
              ranks = m.ranks;
              order = m.order;
              no_goal = m.no_goal;
              never = m.never;
            },
            r.1,
          )

    -- some pair is listed: a path to a goal leaves the closed pairs
    module _ (new : Bool) (s : Search) (whole : Whole new s) where
      leaving : (ls : List ℕ) (p q : ℕ) → Seen s p → Path G.land p ls q → G.land.goal q ≡ true → (x : ℕ) × (s.listed x ≡ true)
      leaving [] p q seen e g = ⊎_elim
          (λ (a : s.listed p ≡ true). (p, a))
          (λ (c : s.closed p ≡ true). absurd (both_ways _ (whole.no_goal p c) (ap G.land.goal e ∙ g)))
          seen
      leaving (l ∷ ls) p q seen e g = ⊎_elim
          (λ (a : s.listed p ≡ true). (p, a))
          (λ (c : s.closed p ≡ true). leaving ls (G.land.to p l) q (whole.done p l c (λ _. sound.counted p l e.0) e.0 (ls, q, e.1, g)).0 e.1 g)
          seen

      some_listed : (x : ℕ) × (s.listed x ≡ true)
      some_listed = let v = (whole.within here whole.home_seen).1 in leaving v.0 here v.1 whole.home_seen v.2 v.3

      pub top_listed : s.listed (top G (plain h) s) ≡ true
      top_listed = let x = some_listed in (top_is G h s x.0 (whole.within x.0 (inl x.1)).0 x.1).0

      pub top_least : (x : ℕ) → s.listed x ≡ true → f h s (top G (plain h) s) ≤ f h s x
      top_least x a = (top_is G h s x (whole.within x (inl a)).0 a).1

    abbrev Found : ℕ → Search → Search → Type 0
    Found k s x = Whole false x × (x.expansions ≤ s.expansions + k)

    going : (k : ℕ) (s : Search) → Whole false s → Found k s (searched G alive (plain h) k s)
    going zero s w = (w, omega arith)
    going (suc k) s w =
        cond_both (G.land.goal (top G (plain h) s)) s (searched G alive (plain h) k (expanded G alive (top G (plain h) s) s)) (Found (suc k) s)
        (λ yes. (w, omega arith))
        (λ no.
        let e = expanding false s w (top G (plain h) s) (top_listed false s w) (top_least false s w) no in
        let r = going k (expanded G alive (top G (plain h) s) s) e.0 in
        (r.0, omega (arith, r.1, e.1)))

    module _ (low : here < G.land.pairs) (lf : Live G.land here) (away : G.land.goal here ≡ false) where
      only : (x : ℕ) → (begin here).listed x ≡ true → x ≡ here
      only x a = ⊎_elim (λ (e : x ≡ here). e) (λ (ne : x ≡ here → ⊥). absurd (both_ways _ (put_other (λ _. false) here true x ne) a)) (cases_eq x here)

      fresh : Whole true (begin here)
      fresh = record {
        rank = λ _. 0;
        home = refl;
        home_seen = inl (put_same (λ _. false) here true here refl);
        start = only;
        within = λ q seen. let e = seen_here q seen in (omega (arith, e, low), subst (Live G.land) (sym e) lf);
        apart = λ q a. refl;
        done = λ p l c below lv l'. absurd (both_ways false refl c);
        ways = λ q seen. inl (seen_here q seen);
        ranks = λ q c. absurd (both_ways false refl c);
        order = λ p q c a. absurd (both_ways false refl c);
        no_goal = λ p c. absurd (both_ways false refl c);
        never = refl;
      }
        where
          seen_here : (q : ℕ) → Seen (begin here) q → q ≡ here
          seen_here q seen = ⊎_elim (λ (a : (begin here).listed q ≡ true). only q a) (λ (a : false ≡ true). absurd (both_ways false refl a)) seen

      pub found : (k : ℕ) → 1 ≤ k
          → Whole false (searched G alive (plain h) k (begin here)) × ((searched G alive (plain h) k (begin here)).expansions ≤ k)
      found zero some = absurd (omega arith)
      found (suc k) some =
          let s = begin here in
          let is = only (top G (plain h) s) (top_listed true s fresh) in
          let no : G.land.goal (top G (plain h) s) ≡ false = ap G.land.goal is ∙ away in
          let e = expanding true s fresh (top G (plain h) s) (top_listed true s fresh) (top_least true s fresh) no in
          let r = going k (expanded G alive (top G (plain h) s) s) e.0 in
          subst (λ (x : Search). Whole false x × (x.expansions ≤ suc k)) (sym (cond-false (G.land.goal (top G (plain h) s)) s (searched G alive (plain h) k (expanded G alive (top G (plain h) s) s)) no))
          (r.0, omega (arith, r.1, e.1))
