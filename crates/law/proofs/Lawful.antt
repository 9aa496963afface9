-- The law of whole runs.
use Rattle.std.proofs.Common.{◌≡◌, ℕ, ◌+◌, ◌-◌, ◌*◌, ◌<◌, ◌≤◌, Bool, true, false, cond, eqb, ltb, leb, ◌⊎◌, List, [], ◌∷◌, ◌++◌, length, take, Decides, MatchBool, sym, refl, ap, ◌∙◌, subst, inl, inr, ⊎_elim, le_refl, mul_assoc, arith}
use Rattle.std.specs.List.{AllByRecursion}
use Rattle.std.proofs.ByRecursion.{All-map, All-take}
use Rattle.std.proofs.lemmas.List.{append-nil, append_assoc}
use Rattle.std.proofs.lemmas.Bool.{cases_Bool, cases_lt, both_ways, ltb-true, leb-true, eqb-true, eq-eqb}
use Rattle.std.proofs.lemmas.Bool.Decides.{Decides-at, not_from_Decides, when_true, when_false}
use Rattle.ltlf.specs.Ltlf.{Satisfies}
use Rattle.ltlf.specs.Numbering.{states, accepts_by_number}
use Rattle.ltlf.proofs.ByNumber.{accepts_by_number_right}
use Rattle.law.specs.Grounds.{Path, Live, dearest}
use Rattle.law.specs.Guides.{at, live, lives, total, over}
use Rattle.law.specs.Charts.{letter, spelt, Joined, today, station}
use Rattle.law.specs.Runs.{Site, machine, land_of, Run, ground_now, alive, arrived, entry, opened, Question, Asks, Marked, Opens, Call, Answer, decide, move, drag, decided, moved, dragged, refused, empty, lead, rest, refusal, search_of, top_of, plan_of, after_decide, after_move, after_drag, Carries, Does, After, stations}
use Rattle.law.specs.Runs.Question.{starts, lives as lasts}
use Rattle.law.specs.Law.{Law}
use Rattle.law.specs.Theorems.{Limits, RunsLawful, SitesStay, GuidesMark, MovesCounted, CallsAnswered, DecisionsPlan, OpeningDetermined, RefusalsDetermined, CallsDetermined}
use Rattle.law.proofs.Paths.{admissible, bounded, capped_one, placed}
use Rattle.law.proofs.Keeping.{Inv, sixteen, ground_sound, rises_after, keeps_decide, decided_well, keeps_move, keeps_drag, renewing}
use Rattle.law.proofs.Existing.{one_renewal}
use Rattle.law.proofs.Grounding.{Fit, fit}
use Rattle.law.proofs.Opening.{opening, same, low, over_total, one_marked}

-- what a drag's 0 tells
dragging : (a b d : Bool) → cond {A = ℕ} a (cond b (cond d 0 21) 20) 19 ≡ 0 → (a ≡ true) × (b ≡ true) × (d ≡ true)
dragging true true true e = (refl, refl, refl)
dragging true true false e = absurd (omega (arith, e))
dragging true false d e = absurd (omega (arith, e))
dragging false b d e = absurd (omega (arith, e))

-- a call is carried out or refused
done : (r : Run) (c : Call) (a : Answer) (r' : Run) → Does r c a r'
    → ((refusal r c ≡ 0) × Carries r c a r') ⊎ ((r' ≡ r) × (a ≡ refused (refusal r c)))
done r c a r' d = ⊎_elim
    (λ (e : eqb (refusal r c) 0 ≡ true). inl (eqb-true _ _ e, when_true (Carries r c a r') ((r' ≡ r) × (a ≡ refused (refusal r c))) e d))
    (λ (e : eqb (refusal r c) 0 ≡ false). inr (when_false (Carries r c a r') ((r' ≡ r) × (a ≡ refused (refusal r c))) e d))
    (cases_Bool (eqb (refusal r c) 0))

done_well : (r : Run) (c : Call) (a : Answer) (r' : Run) → refusal r c ≡ 0 → Does r c a r' → Carries r c a r'
done_well r c a r' ok d = when_true (Carries r c a r') ((r' ≡ r) × (a ≡ refused (refusal r c))) (eq-eqb _ _ ok) d

when_yes : (b : Bool) (P Q : Type 0) → b ≡ true → P → MatchBool b P Q
when_yes true P Q e p = p
when_yes false P Q e p = absurd (both_ways false refl e)

when_no : (b : Bool) (P Q : Type 0) → b ≡ false → Q → MatchBool b P Q
when_no false P Q e p = p
when_no true P Q e p = absurd (both_ways true e refl)

left : (plan : List ℕ) → cond {A = ℕ} (empty plan) 18 0 ≡ 0 → plan ≡ lead plan ∷ rest plan
left [] e = absurd (omega (arith, e))
left (l ∷ ls) e = refl

module _ (r₀ r : Run) (ts : List ℕ) (i : Inv r₀ r ts) where
  abbrev pub Next : Answer → Run → Type 0
  Next a r' = Inv r₀ r' (ts ++ stations (a ∷ []))

  carried : (c : Call) (a : Answer) (r' : Run) → refusal r c ≡ 0 → Carries r c a r' → Next a r'
  carried decide a r' ok h =
      let away = (sixteen (arrived r) _ ok).0 in
      subst (λ (x : Answer). Next x r') (sym h.3) (subst (λ (x : Run). Inv r₀ x (ts ++ [])) (sym h.2)
      (subst (Inv r₀ (after_decide r h.0)) (sym (append-nil ts)) (keeps_decide r₀ r ts i away h.0 h.1.0 h.1.1)))
  carried move a r' ok h =
      let no = sixteen (arrived r) _ ok in
      subst (λ (x : Answer). Next x r') (sym h.1) (subst (λ (x : Run). Inv r₀ x (ts ++ station (machine r.site) (after_move r).here ∷ [])) (sym h.0)
      (keeps_move r₀ r ts i no.0 (lead r.plan) (rest r.plan) (left r.plan no.1)))
  carried (drag l w) a r' ok h =
      let d = dragging (ltb l (length r.site.chart.legs)) (ltb (today r.site.chart r.drags l) w) (leb w 1000) ok in
      subst (λ (x : Answer). Next x r') (sym h.1) (subst (λ (x : Run). Inv r₀ x (ts ++ [])) (sym h.0)
      (subst (Inv r₀ (after_drag r l w)) (sym (append-nil ts)) (keeps_drag r₀ r ts i l w (ltb-true _ _ d.1) (leb-true _ _ d.2))))

  pub step : (c : Call) (a : Answer) (r' : Run) → Does r c a r' → Next a r'
  step c a r' d = ⊎_elim
      (λ (h : (refusal r c ≡ 0) × Carries r c a r'). carried c a r' h.0 h.1)
      (λ (e : (r' ≡ r) × (a ≡ refused (refusal r c))).
      subst (λ (x : Answer). Next x r') (sym e.1) (subst (λ (x : Run). Inv r₀ x (ts ++ [])) (sym e.0) (subst (Inv r₀ r) (sym (append-nil ts)) i)))
      (done r c a r' d)

stations_more : (a : Answer) (ans : List Answer) → stations (a ∷ ans) ≡ stations (a ∷ []) ++ stations ans
stations_more (decided e o n f) ans = refl
stations_more (moved s q paid) ans = refl
stations_more (dragged l w) ans = refl
stations_more (refused n) ans = refl

all_kept : (r₀ : Run) (cs : List Call) (ans : List Answer) (r r' : Run) (ts : List ℕ) → Inv r₀ r ts → After r cs ans r'
    → Inv r₀ r' (ts ++ stations ans)
all_kept r₀ [] [] r r' ts i e = subst (λ (x : Run). Inv r₀ x (ts ++ [])) (sym e) (subst (Inv r₀ r) (sym (append-nil ts)) i)
all_kept r₀ [] (a ∷ ans) r r' ts i e = absurd e
all_kept r₀ (c ∷ cs) [] r r' ts i e = absurd e
all_kept r₀ (c ∷ cs) (a ∷ ans) r r' ts i e =
    let j = all_kept r₀ cs ans e.0 r' (ts ++ stations (a ∷ [])) (step r₀ r ts i c a e.0 e.1) e.2 in
    subst (Inv r₀ r') (append_assoc ts (stations (a ∷ [])) (stations ans) ∙ ap (λ (x : List ℕ). ts ++ x) (sym (stations_more a ans))) j

-- before arrival a plan that is empty wants a decision, any other a move
one_next : (b e : Bool) → b ≡ false
    → ((cond {A = ℕ} b 16 (cond e 0 17) ≡ 0) × (cond {A = ℕ} b 16 (cond e 18 0) ≡ 18)) ⊎ ((cond {A = ℕ} b 16 (cond e 0 17) ≡ 17) × (cond {A = ℕ} b 16 (cond e 18 0) ≡ 0))
one_next true e h = absurd (both_ways true h refl)
one_next false true h = inl (refl, refl)
one_next false false h = inr (refl, refl)

module _ (r₀ r : Run) (ts : List ℕ) (i : Inv r₀ r ts) where
  rise : (c : Call) (a : Answer) (r' : Run) → refusal r c ≡ 0 → Carries r c a r' → (p : ℕ) → at r.guide p ≤ at r'.guide p
  rise decide a r' ok h p = subst (λ (x : Run). at r.guide p ≤ at x.guide p) (sym h.2) (rises_after r₀ r ts i (sixteen (arrived r) _ ok).0 h.0 h.1.0 h.1.1 p)
  rise move a r' ok h p = subst (λ (x : Run). at r.guide p ≤ at x.guide p) (sym h.0) (le_refl _)
  rise (drag l w) a r' ok h p = subst (λ (x : Run). at r.guide p ≤ at x.guide p) (sym h.0) (le_refl _)

  rises : (c : Call) (a : Answer) (r' : Run) → Does r c a r' → (p : ℕ) → at r.guide p ≤ at r'.guide p
  rises c a r' d p = ⊎_elim
      (λ (h : (refusal r c ≡ 0) × Carries r c a r'). rise c a r' h.0 h.1 p)
      (λ (e : (r' ≡ r) × (a ≡ refused (refusal r c))). subst (λ (x : Run). at r.guide p ≤ at x.guide p) (sym e.0) (le_refl _))
      (done r c a r' d)

  -- the end of a path is a pair
  path_low : (ls : List ℕ) (p q : ℕ) → p < (land_of r.site).pairs → Path (land_of r.site) p ls q → q < (land_of r.site).pairs
  path_low [] p q lt e = subst (λ (x : ℕ). x < (land_of r.site).pairs) e lt
  path_low (l ∷ ls) p q lt e = path_low ls ((land_of r.site).to p l) q ((ground_sound r₀ r ts i).within p l lt e.0) e.1

  pub ceiling : r.paid ≤ (lives r.guide - 1) * (lives r.guide - 1) * dearest (ground_now r) (land_of r.site).legs
  ceiling =
      let n = lives r.guide - 1 in
      let d = dearest (ground_now r) (land_of r.site).legs in
      let q = i.living.1 in
      let g = i.living.3 in
      let lo = path_low i.living.0 r.here q i.low i.living.2 in
      let each : (k : ℕ) → live (at r.guide k) ≡ true → at r.guide k ≤ n * d = λ k on.
      let lt = placed r.guide k on in
      let low : k < (land_of r.site).pairs = omega (arith, lt, i.long) in
      bounded (ground_now r) (ground_sound r₀ r ts i) r.guide (λ x a. (i.marks x a).1) (at r.guide) i.agrees k low ((i.marks k low).0 on) in
      let sum = capped_one r.guide (n * d) q each ((i.marks q lo).1 ([], q, refl, g)) (i.agrees.goals q lo g) in
      omega (arith, i.saved, i.first_le, sum, mul_assoc n n d)

  answer : (c : Call) → refusal r c ≡ 0 → (a : Answer) × (r' : Run) × Carries r c a r'
  answer decide ok = let n = renewing r₀ r ts i (sixteen (arrived r) _ ok).0 in (_, _, (n.0, n.1, refl, refl))
  answer move ok = (_, _, (refl, refl))
  answer (drag l w) ok = (_, _, (refl, refl))

  answers : (c : Call) → (a : Answer) × (r' : Run) × Does r c a r'
  answers c = ⊎_elim
      (λ (e : eqb (refusal r c) 0 ≡ true). let n = answer c (eqb-true _ _ e) in (n.0, n.1, when_yes _ _ _ e n.2))
      (λ (e : eqb (refusal r c) 0 ≡ false). (refused (refusal r c), r, when_no _ _ _ e (refl, refl)))
      (cases_Bool (eqb (refusal r c) 0))

-- THE FORMULA

-- the stations of a path have letters of the machine
letters_along : (v : Site) → Fit (machine v) v.chart → ((t : ℕ) → t < length v.chart.letters → letter v.chart t < v.letters)
    → (s : ℕ) (ts : List ℕ) → s < length v.chart.letters → Joined v.chart (s ∷ ts) → AllByRecursion (λ t. letter v.chart t < v.letters) (s ∷ ts)
letters_along v w ok s [] lt j = (ok s lt, tt)
letters_along v w ok s (t ∷ ts) lt j =
    let g = j.0 in
    (ok s lt, letters_along v w ok t ts (omega (arith, (w.joins g.0 g.1).1, g.3)) j.1)

-- the machine accepts the stations whose letters satisfy the formula
accepts_spelt : (v : Site) → length (states v.formula v.letters) ≤ 64 → (ss : List ℕ) → AllByRecursion (λ t. letter v.chart t < v.letters) ss
    → Decides (accepts_by_number v.formula v.letters (spelt v.chart ss)) (Satisfies (spelt v.chart ss) v.formula)
accepts_spelt v few ss low =
    accepts_by_number_right v.formula v.letters few (spelt v.chart ss) (All-map (λ a. a < v.letters) (letter v.chart) ss low)

-- THE LAW

-- from what every call keeps
module _ (v : Site) (lim : Limits v) (first : List ℕ) (asks : (q : Question) → Asks v first q) (guide : List ℕ) (marked : Marked (land_of v) first guide)
    (r : Run) (ts : List ℕ) (i : Inv (opened v guide) r ts) where
  fits : Fit (machine v) v.chart
  fits = fit v.formula v.letters v.chart lim.few lim.charted

  marks_live : (p : ℕ) → p < (land_of v).pairs → Decides (alive r p) (Live (land_of v) p)
  marks_live = subst (λ (x : Site). (p : ℕ) → p < (land_of x).pairs → Decides (alive r p) (Live (land_of x) p)) i.site i.marks

  sum_first : over r.guide first ≡ total guide
  sum_first = over_total v fits first asks guide marked r.guide (i.long ∙ ap (λ (x : Site). (land_of x).pairs) i.site) marks_live

  few : length (states r.site.formula r.site.letters) ≤ 64
  few = subst (λ (x : Site). length (states x.formula x.letters) ≤ 64) (sym i.site) lim.few

  spelling : AllByRecursion (λ t. letter r.site.chart t < r.site.letters) (r.site.start ∷ ts)
  spelling =
      letters_along r.site i.fits i.letters r.site.start ts
      (subst (λ (x : Site). x.start < length x.chart.letters) (sym i.site) (asks starts).0) i.path

  lawful : Law v first r ts
  lawful =
      let r₀ = opened v guide in
      let start = same v fits first asks guide marked (entry v) (low v fits first asks guide marked) (asks lasts) in
      subst (λ (x : Site). Law x first r ts) i.site (record {
        saved = omega (arith, i.saved, sum_first, start, ap (λ (x : Site). at first (entry x)) i.site);
        rises = rises r₀ r ts i;
        admissible = λ p q ls lt e g. admissible (ground_now r) (ground_sound r₀ r ts i) (at r.guide) i.agrees ls p q lt e g;
        one_next = one_next (arrived r) (empty r.plan);
        ceiling = ceiling r₀ r ts i;
        path = i.path;
        arrival = Decides-at _ _ (ap (machine r.site).accepts i.state_is) (accepts_spelt r.site few (r.site.start ∷ ts) spelling);
        first_arrival = λ n pos lt.
            let ss = take n (r.site.start ∷ ts) in
            not_from_Decides _ (accepts_spelt r.site few ss (All-take _ n (r.site.start ∷ ts) spelling)) (i.earlier n pos lt);
      })

  decision : (e o n f : ℕ) (r' : Run) → refusal r decide ≡ 0 → Does r decide (decided e o n f) r'
      → (o ≡ 0) × (1 ≤ n) × (n ≤ v.lookahead) × (at r'.guide r.here ≡ f)
  decision e o n f r' ok d =
      let h = done_well r decide (decided e o n f) r' ok d in
      let w = decided_well (opened v guide) r ts i (sixteen (arrived r) _ ok).0 h.0 h.1.0 h.1.1 in
      let o_is : o ≡ (search_of r).reopenings = cc h.3 in
      let n_is : n ≡ length (plan_of r) = cc h.3 in
      let f_is : f ≡ (search_of r).g (top_of r) + at r.guide (top_of r) = cc h.3 in (
        o_is ∙ w.0,
        omega (arith, n_is, w.1),
        omega (arith, n_is, w.2, ap (λ (x : Site). x.lookahead) i.site),
        ap (λ (x : Run). at x.guide r.here) h.2 ∙ (w.3 ∙ sym f_is),
      )

-- what every call keeps holds of every run
pub reached : (v : Site) → Limits v → (first : List ℕ) (r₀ : Run) → (o : Opens v first r₀)
    → (cs : List Call) (ans : List Answer) (r : Run) → After r₀ cs ans r → Inv (opened v o.1) r (stations ans)
reached v lim first r₀ o cs ans r a =
    let w = fit v.formula v.letters v.chart lim.few lim.charted in
    all_kept (opened v o.1) cs ans (opened v o.1) r [] (opening v w first o.0 o.1 o.2) (subst (λ (x : Run). After x cs ans r) o.3 a)

pub runs_lawful : RunsLawful
runs_lawful v lim first r₀ o cs ans r a = lawful v lim first o.0 o.1 o.2 r (stations ans) (reached v lim first r₀ o cs ans r a)

pub sites_stay : SitesStay
sites_stay v lim first r₀ o cs ans r a = (reached v lim first r₀ o cs ans r a).site

pub guides_mark : GuidesMark
guides_mark v lim first r₀ o cs ans r a = marks_live v lim first o.0 o.1 o.2 r (stations ans) (reached v lim first r₀ o cs ans r a)

pub moves_counted : MovesCounted
moves_counted v lim first r₀ o cs ans r a = let i = reached v lim first r₀ o cs ans r a in (i.counted, i.moves_paid)

pub calls_answered : CallsAnswered
calls_answered v lim first r₀ o cs ans r a = answers (opened v o.1) r (stations ans) (reached v lim first r₀ o cs ans r a)

pub decisions_plan : DecisionsPlan
decisions_plan v lim first r₀ o cs ans r a = decision v lim first o.0 o.1 o.2 r (stations ans) (reached v lim first r₀ o cs ans r a)

-- DETERMINEDNESS

pub opening_determined : OpeningDetermined
opening_determined v first r₁ r₂ a b = a.3 ∙ (ap (opened v) (one_marked (land_of v) first a.1 b.1 a.2 b.2) ∙ sym b.3)

-- the first no is one
pub refusals_determined : RefusalsDetermined
refusals_determined v first n₁ n₂ a = (
  λ r o. a.2 (o.0 a.0),
  λ b. ⊎_elim
      (λ (lt : n₁ < n₂). absurd (a.2 (b.3 a.0 (omega (arith, lt, a.1, b.1)))))
      (λ (le : n₂ ≤ n₁). ⊎_elim
      (λ (lt : n₂ < n₁). absurd (b.2 (a.3 b.0 (omega (arith, lt, a.1, b.1)))))
      (λ (ge : n₁ ≤ n₂). omega (arith, le, ge))
      (cases_lt n₂ n₁))
      (cases_lt n₁ n₂),
)

-- a call is determined
one : (r r₁ r₂ : Run) (c : Call) (a₁ a₂ : Answer) → Carries r c a₁ r₁ → Carries r c a₂ r₂ → (r₁ ≡ r₂) × (a₁ ≡ a₂)
one r r₁ r₂ decide a₁ a₂ x y =
    let same = one_renewal (ground_now r) (search_of r) (at r.guide) x.0 y.0 (x.1.0 ∙ sym y.1.0) x.1.1 y.1.1 in
    (x.2 ∙ (ap (after_decide r) same ∙ sym y.2), x.3 ∙ sym y.3)
one r r₁ r₂ move a₁ a₂ x y = (x.0 ∙ sym y.0, x.1 ∙ sym y.1)
one r r₁ r₂ (drag l w) a₁ a₂ x y = (x.0 ∙ sym y.0, x.1 ∙ sym y.1)

pub calls_determined : CallsDetermined
calls_determined r r₁ r₂ c a₁ a₂ x y = ⊎_elim
    (λ (e : eqb (refusal r c) 0 ≡ true). let ok = eqb-true _ _ e in one r r₁ r₂ c a₁ a₂ (done_well r c a₁ r₁ ok x) (done_well r c a₂ r₂ ok y))
    (λ (e : eqb (refusal r c) 0 ≡ false).
    let u = when_false (Carries r c a₁ r₁) ((r₁ ≡ r) × (a₁ ≡ refused (refusal r c))) e x in
    let v = when_false (Carries r c a₂ r₂) ((r₂ ≡ r) × (a₂ ≡ refused (refusal r c))) e y in
    (u.0 ∙ sym v.0, u.1 ∙ sym v.1))
    (cases_Bool (eqb (refusal r c) 0))
