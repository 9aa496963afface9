-- The worked run, computed.
use Rattle.std.proofs.Common.{◌≡◌, ℕ, ◌/◌, ◌<◌, ◌≤◌, true, false, ltb, List, [], ◌∷◌, length, get_or, set, sym, refl, ap, ◌∙◌, inl, inr, ⊎_elim, arith}
use Rattle.std.proofs.lemmas.List.{get_or_past}
use Rattle.std.proofs.lemmas.Bool.{cases_Bool, ltb-true, le-ltb, cond-false}
use Rattle.chart.specs.Kept.{table_within}
use Rattle.ltlf.specs.Numbering.{states}
use Rattle.law.specs.Grounds.{Live}
use Rattle.law.specs.Guides.{dead, at}
use Rattle.law.specs.Charts.{letter}
use Rattle.law.specs.Runs.{machine, land_of, Run, ground_now, arrived, no_drags, fresh, Question, Asks, Marked, Opens, decide, move, drag, decided, moved, dragged, refused, search_of, after_decide, after_move, after_drag, Renews, Does, After}
use Rattle.law.specs.Runs.Question.{starts, reads, lives as lasts, agrees}
use Rattle.law.specs.Law.{Law}
use Rattle.law.specs.Theorems.{Limits}
use Rattle.law.specs.Worked.{bore, bore_chart, site, first_guide, start, calls, answers, Worked}
use Rattle.law.proofs.Settled.{every_is, fits as settles_all, fits_updates, walks, walks_live, agreeing_agrees}
use Rattle.law.proofs.Grounding.{Fit, fit, sound}
use Rattle.law.proofs.Keeping.{Inv, whole}
use Rattle.law.proofs.Opening.{opening}
use Rattle.law.proofs.Lawful.{step, runs_lawful}

five : states bore 4 ≡ 170 ∷ 238 ∷ 250 ∷ 254 ∷ 255 ∷ []
unfolding states
five = refl

limits : Limits site
limits = record {
  charted = table_within bore_chart.letters bore_chart.legs (omega arith) (omega arith) (omega arith) refl;
  few = omega (arith, ap length five);
}

fits : Fit (machine site) bore_chart
fits = fit bore 4 bore_chart limits.few limits.charted

readable : (t : ℕ) → t < 4 → letter bore_chart t < 4
readable t lt = ltb-true _ _ (every_is (λ t. ltb (letter bore_chart t) 4) 4 refl t lt)

-- from every pair the way over station 3 to station 1 leads to a goal
abbrev over : ℕ → List ℕ
over p = get_or ((0 ∷ 2 ∷ 4 ∷ 5 ∷ 3 ∷ []) ∷ (2 ∷ 4 ∷ 5 ∷ 3 ∷ []) ∷ (4 ∷ 5 ∷ 3 ∷ []) ∷ (5 ∷ 4 ∷ 5 ∷ 3 ∷ []) ∷ []) (p / 5) []

all_live : (p : ℕ) → p < (land_of site).pairs → Live (land_of site) p
unfolding states
all_live p lt = walks_live (land_of site) (over p) p (every_is (λ p. walks (land_of site) p (over p)) 20 refl p lt)

asks : (q : Question) → Asks site first_guide q
unfolding states
asks starts = (omega arith, omega arith, omega arith)
asks reads = readable
asks lasts = all_live 0 (omega arith)
asks agrees = agreeing_agrees (fresh site) (at first_guide) (sound (machine site) bore_chart fits readable (no_drags site)) refl

marked : Marked (land_of site) first_guide first_guide
unfolding states
marked = record { long = refl; each = λ p lt. inl (all_live p lt, refl) }

opens : Opens site first_guide start
opens = (asks, first_guide, marked, refl)

i0 : Inv start start []
i0 = opening site fits first_guide asks first_guide marked

-- a guide that passes the test is the one that a decision leaves
renews : {ts : List ℕ} (r : Run) (guide : List ℕ) → Inv start r ts → arrived r ≡ false → length guide ≡ length r.guide
    → settles_all (ground_now r) (search_of r) (at r.guide) (at guide) ≡ true → Renews r guide
renews {ts} r guide i away long e =
    let w = (whole start r ts i away).0 in
    let off : (p : ℕ) → (land_of r.site).pairs ≤ p → ((search_of r).closed p ≡ false) × ((search_of r).listed p ≡ false) × (at guide p ≡ at r.guide p) = λ p le. (
      ⊎_elim (λ (c : (search_of r).closed p ≡ true). absurd (omega (arith, (w.within p (inr c)).0, le))) (λ (c : (search_of r).closed p ≡ false). c) (cases_Bool ((search_of r).closed p)),
      ⊎_elim (λ (c : (search_of r).listed p ≡ true). absurd (omega (arith, (w.within p (inl c)).0, le))) (λ (c : (search_of r).listed p ≡ false). c) (cases_Bool ((search_of r).listed p)),
      get_or_past guide p dead (omega (arith, long, i.long, le)) ∙ sym (get_or_past r.guide p dead (omega (arith, i.long, le))),
    ) in
    (long, fits_updates (ground_now r) (search_of r) (at r.guide) (at guide) off (sound (machine r.site) r.site.chart i.fits i.letters r.drags) e)

-- the guides that the decisions leave
abbrev g1 : List ℕ
g1 = set (set first_guide 0 120) 5 90

abbrev g2 : List ℕ
g2 = set (set g1 10 100) 16 70

abbrev g3 : List ℕ
g3 = set g2 12 40

-- the run after each call
abbrev r1 : Run
r1 = after_decide start g1

abbrev r2 : Run
r2 = after_move r1

abbrev r3 : Run
r3 = after_move r2

abbrev r4 : Run
r4 = after_decide r3 g2

abbrev r5 : Run
r5 = after_move r4

abbrev r6 : Run
r6 = after_move r5

abbrev r7 : Run
r7 = after_decide r6 g3

abbrev r8 : Run
r8 = after_move r7

d1 : Does start decide (decided 2 0 2 120) r1
unfolding states
d1 = (g1, renews start g1 i0 refl refl refl, refl, refl)

d2 : Does r1 move (moved 1 0 30) r2
unfolding states
d2 = (refl, refl)

d3 : Does r2 move (moved 2 0 60) r3
unfolding states
d3 = (refl, refl)

i3 : Inv start r3 (1 ∷ 2 ∷ [])
i3 =
    let i1 = step start start [] i0 decide (decided 2 0 2 120) r1 d1 in
    let i2 = step start r1 [] i1 move (moved 1 0 30) r2 d2 in
    step start r2 (1 ∷ []) i2 move (moved 2 0 60) r3 d3

d4 : Does r3 decide (decided 2 0 2 100) r4
unfolding states
d4 = (g2, renews r3 g2 i3 refl refl refl, refl, refl)

d5 : Does r4 move (moved 3 1 90) r5
unfolding states
d5 = (refl, refl)

d6 : Does r5 move (moved 2 2 130) r6
unfolding states
d6 = (refl, refl)

i6 : Inv start r6 (1 ∷ 2 ∷ 3 ∷ 2 ∷ [])
i6 =
    let i4 = step start r3 (1 ∷ 2 ∷ []) i3 decide (decided 2 0 2 100) r4 d4 in
    let i5 = step start r4 (1 ∷ 2 ∷ []) i4 move (moved 3 1 90) r5 d5 in
    step start r5 (1 ∷ 2 ∷ 3 ∷ []) i5 move (moved 2 2 130) r6 d6

d7 : Does r6 decide (decided 1 0 1 40) r7
unfolding states
d7 = (g3, renews r6 g3 i6 refl refl refl, refl, refl)

d8 : Does r7 move (moved 1 4 170) r8
unfolding states
d8 = (refl, refl)

d9 : Does r8 move (refused 16) r8
unfolding states
d9 = (refl, refl)

all : After start calls answers r8
all = (r1, d1, (r2, d2, (r3, d3, (r4, d4, (r5, d5, (r6, d6, (r7, d7, (r8, d8, (r8, d9, refl)))))))))

law : Law site first_guide r8 (1 ∷ 2 ∷ 3 ∷ 2 ∷ 1 ∷ [])
law = runs_lawful site limits first_guide start opens calls answers r8 all

-- drags of leg 2
abbrev r9 : Run
r9 = after_drag r2 2 50

d10 : (Does r2 (drag 2 30) (refused 20) r2) × (Does r2 (drag 2 1001) (refused 21) r2) × (Does r2 (drag 6 50) (refused 19) r2) × (Does r2 (drag 2 50) (dragged 2 50) r9) × (Does r9 move (refused 18) r9)
unfolding states
d10 = ((refl, refl), (refl, refl), (refl, refl), (refl, refl), (refl, refl))

pub worked : Worked
unfolding states
worked = record {
  is_bore = refl;
  five_states = five;
  within = limits;
  opens = opens;
  end = r8;
  runs = all;
  arrives = refl;
  moves = refl;
  paid = refl;
  first_total = refl;
  end_total = refl;
  end_lives = refl;
  lawful = law;
  satisfied = law.arrival.0 refl;
  dragged_end = r9;
  drags = (r1, d1, (r2, d2, (r2, d10.0, (r2, d10.1, (r2, d10.2, (r9, d10.3, (r9, d10.4, refl)))))));
  decides_again = refl;
  unopened = (refl, refl, λ l w. cond-false (ltb l 0) _ 19 (le-ltb l 0 (omega arith)));
  tied = refl;
}
