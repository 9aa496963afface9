-- What every call of a run keeps.
use Rattle.std.proofs.Common.{◌≡◌, ℕ, zero, suc, ◌+◌, ◌-◌, ◌<◌, ◌≤◌, Bool, true, false, cond, List, [], ◌∷◌, ◌++◌, map, length, take, set, Decides, sym, refl, ap, ◌∙◌, subst, inr, ⊎_elim, le_refl, arith}
use Rattle.std.proofs.lemmas.List.{length-append, get_or_past, map_push, take-append-le, take_at}
use Rattle.std.proofs.lemmas.List.Sums.{sum_by-cons}
use Rattle.std.proofs.lemmas.Bool.{cases_lt, cases_Bool}
use Rattle.law.specs.Grounds.{Live}
use Rattle.law.specs.Guides.{dead, at, live, total, Agrees}
use Rattle.law.specs.Searches.{Updated}
use Rattle.law.specs.Charts.{leg, letter, spelt, Joined, today, station, state}
use Rattle.law.specs.Runs.{machine, land_of, Run, ground_now, alive, arrived, search_of, top_of, plan_of, after_decide, walked, after_drag, Renews}
use Rattle.ltlf.specs.Numbering.{number_after, accepts_by_number}
use Rattle.ltlf.proofs.ByNumber.{number_push}
use Rattle.law.proofs.Paths.{Sound, placed}
use Rattle.law.proofs.Searching.{Whole, found}
use Rattle.law.proofs.Updating
use Rattle.law.proofs.Existing.{renewal}
use Rattle.law.proofs.Updating.{Tight}
use Rattle.law.proofs.Grounding.{Fit, sound, unmarked, time_rises, time_most, leg_parts, to_station, to_state, final, final_more, joined_more}

abbrev pub worth : ℕ → ℕ
worth n = cond (live n) n 0

-- a sum rises by at least what one number rises by
raised : (xs ys : List ℕ) → length xs ≡ length ys → ((p : ℕ) → worth (at xs p) ≤ worth (at ys p)) → total xs ≤ total ys
raised [] [] e each = le_refl _
raised [] (y ∷ ys) e each = absurd (omega arith)
raised (x ∷ xs) [] e each = absurd (omega arith)
raised (x ∷ xs) (y ∷ ys) e each =
    omega (arith, sum_by-cons worth x xs, sum_by-cons worth y ys, each 0, raised xs ys (omega arith) (λ p. each (suc p)))

raised_by : (xs ys : List ℕ) (i : ℕ) → length xs ≡ length ys → i < length xs → ((p : ℕ) → worth (at xs p) ≤ worth (at ys p))
    → total xs + worth (at ys i) ≤ total ys + worth (at xs i)
raised_by [] ys i e lt each = absurd (omega arith)
raised_by (x ∷ xs) [] i e lt each = absurd (omega arith)
raised_by (x ∷ xs) (y ∷ ys) zero e lt each =
    omega (arith, sum_by-cons worth x xs, sum_by-cons worth y ys, raised xs ys (omega arith) (λ p. each (suc p)))
raised_by (x ∷ xs) (y ∷ ys) (suc i) e lt each =
    omega (arith, sum_by-cons worth x xs, sum_by-cons worth y ys, each 0, raised_by xs ys i (omega arith) (omega arith) (λ p. each (suc p)))

pub worth_live : (n : ℕ) → live n ≡ true → worth n ≡ n
worth_live n e = ap (λ (b : Bool). cond {A = ℕ} b n 0) e

worth_dead : (n : ℕ) → live n ≡ false → worth n ≡ 0
worth_dead n e = ap (λ (b : Bool). cond {A = ℕ} b n 0) e

-- r₀ is the run as it opened, and ts are the stations answered since
pub record Inv (r₀ r : Run) (ts : List ℕ) : Type 0 where
  pub site : r.site ≡ r₀.site
  pub fits : Fit (machine r.site) r.site.chart
  pub letters : (t : ℕ) → t < length r.site.chart.letters → letter r.site.chart t < r.site.letters
  pub look : 1 ≤ r.site.lookahead
  pub times : (l : ℕ) → l < length r.site.chart.legs → today r.site.chart r.drags l ≤ 1000
  pub long : length r.guide ≡ (land_of r.site).pairs
  pub agrees : Agrees (ground_now r) (at r.guide)
  pub marks : (p : ℕ) → p < (land_of r.site).pairs → Decides (live (at r.guide p)) (Live (land_of r.site) p)
  pub low : r.here < (land_of r.site).pairs
  pub living : Live (land_of r.site) r.here
  pub tight : Tight (ground_now r) (at r.guide) r.here r.plan
  pub first_le : at r₀.guide r₀.here ≤ total r₀.guide
  pub saved : r.paid + at r.guide r.here + total r₀.guide ≤ total r.guide + at r₀.guide r₀.here
  pub counted : r.moves ≡ length ts
  pub moves_paid : r.moves ≤ r.paid
  pub standing : station (machine r.site) r.here ≡ final r.site.start ts
  pub state_is : state (machine r.site) r.here ≡ number_after r.site.formula r.site.letters ((machine r.site).first (letter r.site.chart r.site.start)) (map (letter r.site.chart) ts)
  pub path : Joined r.site.chart (r.site.start ∷ ts)
  pub earlier : (n : ℕ) → 0 < n → n < length (r.site.start ∷ ts)
      → accepts_by_number r.site.formula r.site.letters (spelt r.site.chart (take n (r.site.start ∷ ts))) ≡ false

-- what a refusal's 0 tells
pub sixteen : (b : Bool) (x : ℕ) → cond b 16 x ≡ 0 → (b ≡ false) × (x ≡ 0)
sixteen true x e = absurd (omega (arith, e))
sixteen false x e = (refl, e)

module _ (r₀ r : Run) (ts : List ℕ) (i : Inv r₀ r ts) where
  pub ground_sound : Sound (ground_now r)
  ground_sound = sound (machine r.site) r.site.chart i.fits i.letters r.drags

  module _ (away : arrived r ≡ false) where
    pub whole : Whole (ground_now r) (at r.guide) r.here false (search_of r) × ((search_of r).expansions ≤ r.site.lookahead)
    whole = found (ground_now r) (at r.guide) r.here ground_sound i.agrees (alive r) i.marks i.low i.living away r.site.lookahead i.look

    pub renewing : (guide : List ℕ) × Renews r guide
    renewing =
        let n = renewal (ground_now r) (at r.guide) r.here ground_sound (search_of r) whole.0 (land_of r.site).pairs
        (λ p le. get_or_past r.guide p dead (omega (arith, le, i.long)))
        (λ p c. (whole.0.within p (inr c)).0) in
        (n.0, (n.1 ∙ sym i.long, n.2))

    module _ (guide : List ℕ) (long : length guide ≡ length r.guide) (up : Updated (ground_now r) (search_of r) (at r.guide) (at guide)) where
      agrees_after : Agrees (ground_now r) (at guide)
      agrees_after = Updating.agrees_after (ground_now r) (at r.guide) r.here ground_sound i.agrees (alive r) i.marks (search_of r) whole.0 (at guide) up

      pub rises_after : (p : ℕ) → at r.guide p ≤ at guide p
      rises_after = Updating.rises (ground_now r) (at r.guide) r.here ground_sound i.agrees (alive r) i.marks (search_of r) whole.0 (at guide) up

      marks_after : (p : ℕ) → p < (land_of r.site).pairs → Decides (live (at guide p)) (Live (land_of r.site) p)
      marks_after p lt = (
        λ e. ⊎_elim
            (λ (c : (search_of r).closed p ≡ true). (whole.0.within p (inr c)).1)
            (λ (c : (search_of r).closed p ≡ false). (i.marks p lt).0 (ap live (sym (up.kept p c)) ∙ e))
            (cases_Bool ((search_of r).closed p)),
        λ lf. unmarked (machine r.site) r.site.chart i.fits i.letters r.drags i.times (at guide) agrees_after p lt lf,
      )

      -- the sum rises by at least what the guide rises by here
      worth_rises : (p : ℕ) → worth (at r.guide p) ≤ worth (at guide p)
      worth_rises p = ⊎_elim
          (λ (e : live (at r.guide p) ≡ true).
          let lt = placed r.guide p e in
          let lo : p < (land_of r.site).pairs = omega (arith, lt, i.long) in
          let e' = (marks_after p lo).1 ((i.marks p lo).0 e) in
          omega (arith, worth_live _ e, worth_live _ e', rises_after p))
          (λ (e : live (at r.guide p) ≡ false). omega (arith, worth_dead _ e))
          (cases_Bool (live (at r.guide p)))

      sum_rises : total r.guide + at guide r.here ≤ total guide + at r.guide r.here
      sum_rises =
          let e = (i.marks r.here i.low).1 i.living in
          let e' = (marks_after r.here i.low).1 i.living in
          omega (arith, raised_by r.guide guide r.here (sym long) (omega (arith, i.long, i.low)) worth_rises, worth_live _ e, worth_live _ e')

      pub keeps_decide : Inv r₀ (after_decide r guide) ts
      keeps_decide = record {
        site = i.site;
        fits = i.fits;
        letters = i.letters;
        look = i.look;
        times = i.times;
        long = long ∙ i.long;
        agrees = agrees_after;
        marks = marks_after;
        low = i.low;
        living = i.living;
        tight = Updating.plan_tight (ground_now r) (at r.guide) r.here ground_sound i.agrees (alive r) i.marks (search_of r) whole.0 (at guide) up;
        first_le = i.first_le;
        saved = omega (arith, i.saved, sum_rises);
        counted = i.counted;
        moves_paid = i.moves_paid;
        standing = i.standing;
        state_is = i.state_is;
        path = i.path;
        earlier = i.earlier;
      }

      pub decided_well : ((search_of r).reopenings ≡ 0) × (1 ≤ length (plan_of r)) × (length (plan_of r) ≤ r.site.lookahead) × (at guide r.here ≡ (search_of r).g (top_of r) + at r.guide (top_of r))
      decided_well =
          let w = whole in (
            w.0.never,
            Updating.plan_some (ground_now r) (at r.guide) r.here ground_sound i.agrees (alive r) i.marks (search_of r) w.0 (at guide) up,
            omega (arith, w.1, Updating.plan_short (ground_now r) (at r.guide) r.here ground_sound i.agrees (alive r) i.marks (search_of r) w.0 (at guide) up),
            Updating.here_is (ground_now r) (at r.guide) r.here ground_sound i.agrees (alive r) i.marks (search_of r) w.0 (at guide) up,
          )

    -- a move
    module _ (l : ℕ) (ls : List ℕ) (plan : r.plan ≡ l ∷ ls) where
      leg_tight : Tight (ground_now r) (at r.guide) r.here (l ∷ ls)
      leg_tight = subst (Tight (ground_now r) (at r.guide) r.here) plan i.tight

      there : ℕ
      there = (land_of r.site).to r.here l

      end : ℕ
      end = (leg r.site.chart l).to

      stands : station (machine r.site) there ≡ end
      unfolding there end
      stands = to_station (machine r.site) r.site.chart i.fits i.letters r.here l i.low leg_tight.0

      joined_on : Joined r.site.chart (r.site.start ∷ (ts ++ end ∷ []))
      unfolding end
      joined_on =
          let p = leg_parts (machine r.site) r.site.chart i.fits i.letters r.here l leg_tight.0 in
          joined_more r.site.chart r.site.start ts (leg r.site.chart l).to i.path (l, p.0, p.1 ∙ i.standing, refl)

      reads_on : state (machine r.site) there ≡ number_after r.site.formula r.site.letters ((machine r.site).first (letter r.site.chart r.site.start)) (map (letter r.site.chart) (ts ++ end ∷ []))
      unfolding there end
      reads_on =
          let t = (leg r.site.chart l).to in
          let q = (machine r.site).first (letter r.site.chart r.site.start) in
          let xs = map (letter r.site.chart) ts in
          to_state (machine r.site) r.site.chart i.fits i.letters r.here l i.low leg_tight.0
          ∙ (ap (λ (x : ℕ). (machine r.site).next x (letter r.site.chart t)) i.state_is
          ∙ (sym (number_push r.site.formula r.site.letters q xs (letter r.site.chart t))
          ∙ ap (number_after r.site.formula r.site.letters q) (sym (map_push (letter r.site.chart) ts t))))

      -- no shorter beginning is accepted
      earlier_on : (n : ℕ) → 0 < n → n < length (r.site.start ∷ (ts ++ end ∷ []))
          → accepts_by_number r.site.formula r.site.letters (spelt r.site.chart (take n (r.site.start ∷ (ts ++ end ∷ [])))) ≡ false
      earlier_on n pos lt = ⊎_elim
          (λ (short : n < length (r.site.start ∷ ts)).
          ap (λ (x : List ℕ). accepts_by_number r.site.formula r.site.letters (spelt r.site.chart x)) (take-append-le n (r.site.start ∷ ts) (end ∷ []) (omega (arith, short))) ∙ i.earlier n pos short)
          (λ (le : length (r.site.start ∷ ts) ≤ n).
          let is : length (r.site.start ∷ ts) ≡ n = omega (arith, le, lt, length-append ts (end ∷ [])) in
          ap (λ (x : List ℕ). accepts_by_number r.site.formula r.site.letters (spelt r.site.chart x)) (take_at (r.site.start ∷ ts) (end ∷ []) n is)
          ∙ (ap (machine r.site).accepts (sym i.state_is) ∙ away))
          (cases_lt n (length (r.site.start ∷ ts)))

      move_to_end : Inv r₀ (walked r l ls) (ts ++ end ∷ [])
      unfolding there
      move_to_end = record {
        site = i.site;
        fits = i.fits;
        letters = i.letters;
        look = i.look;
        times = i.times;
        long = i.long;
        agrees = i.agrees;
        marks = i.marks;
        low = ground_sound.within r.here l i.low leg_tight.0;
        living = leg_tight.1;
        tight = leg_tight.3;
        first_le = i.first_le;
        saved = omega (arith, i.saved, leg_tight.2);
        counted = omega (arith, i.counted, length-append ts (end ∷ []));
        moves_paid = omega (arith, i.moves_paid, ground_sound.takes l (ground_sound.counted r.here l leg_tight.0));
        standing = stands ∙ sym (final_more r.site.start ts end);
        state_is = reads_on;
        path = joined_on;
        earlier = earlier_on;
      }

      pub keeps_move : Inv r₀ (walked r l ls) (ts ++ station (machine r.site) (walked r l ls).here ∷ [])
      unfolding there
      keeps_move = subst (λ (x : ℕ). Inv r₀ (walked r l ls) (ts ++ x ∷ [])) (sym stands) move_to_end

  -- a drag
  module _ (l w : ℕ) (more : today r.site.chart r.drags l < w) (few : w ≤ 1000) where
    d' : List ℕ
    d' = set r.drags l (w - (leg r.site.chart l).seconds)

    rise : (k : ℕ) → today r.site.chart r.drags k ≤ today r.site.chart d' k
    unfolding d'
    rise = time_rises r.site.chart r.drags l w more

    pub keeps_drag : Inv r₀ (after_drag r l w) ts
    unfolding d'
    keeps_drag = record {
      site = i.site;
      fits = i.fits;
      letters = i.letters;
      look = i.look;
      times = λ k lt. time_most r.site.chart r.drags l w more few k (i.times k lt);
      long = i.long;
      agrees = record {
        goals = i.agrees.goals;
        legs = λ p k lt lv lf. omega (arith, i.agrees.legs p k lt lv lf, rise k);
      };
      marks = i.marks;
      low = i.low;
      living = i.living;
      tight = tt;
      first_le = i.first_le;
      saved = i.saved;
      counted = i.counted;
      moves_paid = i.moves_paid;
      standing = i.standing;
      state_is = i.state_is;
      path = i.path;
      earlier = i.earlier;
    }
