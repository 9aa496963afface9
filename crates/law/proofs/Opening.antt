-- What holds when a run has opened.
use Rattle.std.proofs.Common.{◌≡◌, ℕ, zero, suc, ◌+◌, ◌<◌, ◌≤◌, Bool, true, false, cond, List, [], ◌∷◌, length, take, Decides, sum_by, sym, refl, ap, ◌∙◌, ⊎_elim, arith}
use Rattle.std.proofs.lemmas.Nat.{div-mul-add, mod-mul-add}
use Rattle.std.proofs.lemmas.List.{get_or-replicate, take_all, ext_get_or}
use Rattle.std.proofs.lemmas.List.Sums.{get_or-le-sum_by, sum_by_more}
use Rattle.std.proofs.lemmas.Bool.{both_ways, cases_Bool}
use Rattle.law.specs.Grounds.{Land, Live}
use Rattle.law.specs.Guides.{dead, at, live, total, sum_to, over, Agrees}
use Rattle.law.specs.Charts.{letter, today}
use Rattle.law.specs.Runs.{Site, machine, land_of, entry, no_drags, fresh, opened, Question, Asks, Marked}
use Rattle.law.specs.Runs.Question.{starts, reads, lives, agrees}
use Rattle.law.proofs.Paths.{placed}
use Rattle.law.proofs.Grounding.{Fit, sound, unmarked, pair_low}
use Rattle.law.proofs.Keeping.{Inv, worth_live, worth}

module _ (v : Site) (w : Fit (machine v) v.chart) (first : List ℕ) (asks : (q : Question) → Asks v first q) (guide : List ℕ) (marked : Marked (land_of v) first guide) where
  pub same : (p : ℕ) → p < (land_of v).pairs → Live (land_of v) p → at guide p ≡ at first p
  same p lt lf = ⊎_elim
      (λ (a : Live (land_of v) p × (at guide p ≡ at first p)). a.1)
      (λ (a : (Live (land_of v) p → ⊥) × (at guide p ≡ dead)). absurd (a.0 lf))
      (marked.each p lt)

  agree : Agrees (fresh v) (at guide)
  agree = record {
    goals = λ p lt g. same p lt ([], p, refl, g) ∙ (asks agrees).goals p lt g;
    legs = λ p l lt lv lf.
        let lo = (sound (machine v) v.chart w (asks reads) (no_drags v)).within p l lt lv in
        omega (arith, (asks agrees).legs p l lt lv lf, same p lt (l ∷ lf.0, lf.1, (lv, lf.2), lf.3), same _ lo lf);
  }

  times : (l : ℕ) → l < length v.chart.legs → today v.chart (no_drags v) l ≤ 1000
  times l lt = omega (arith, (w.seconds l lt).1, get_or-replicate {A = ℕ} (length v.chart.legs) l 0 0 lt)

  pub marks : (p : ℕ) → p < (land_of v).pairs → Decides (live (at guide p)) (Live (land_of v) p)
  marks p lt = (
    λ e. ⊎_elim
        (λ (a : Live (land_of v) p × (at guide p ≡ at first p)). a.0)
        (λ (a : (Live (land_of v) p → ⊥) × (at guide p ≡ dead)). absurd (both_ways _ (ap live a.1) e))
        (marked.each p lt),
    λ lf. unmarked (machine v) v.chart w (asks reads) (no_drags v) times (at guide) agree p lt lf,
  )

  q_low : (machine v).first (letter v.chart v.start) < (machine v).states
  q_low = w.first _ (asks reads v.start (asks starts).0)

  pub low : entry v < (land_of v).pairs
  low = pair_low (machine v) v.chart w (asks reads) v.start _ (asks starts).0 q_low

  pub opening : Inv (opened v guide) (opened v guide) []
  opening =
      let on = (marks (entry v) low).1 (asks lives) in
      record {
        site = refl;
        fits = w;
        letters = asks reads;
        look = (asks starts).1;
        times = times;
        long = marked.long;
        agrees = agree;
        marks = marks;
        low = low;
        living = asks lives;
        tight = tt;
        first_le = omega (arith, get_or-le-sum_by worth guide (entry v) dead (placed guide (entry v) on), worth_live _ on);
        saved = omega arith;
        counted = refl;
        moves_paid = omega arith;
        standing = div-mul-add v.start (machine v).states _ q_low;
        state_is = mod-mul-add v.start (machine v).states _ q_low;
        path = tt;
        earlier = λ n pos lt. absurd (omega (arith, pos, lt));
      }

-- sums by index
total_to : (xs : List ℕ) (n : ℕ) → n ≤ length xs → sum_by worth (take n xs) ≡ sum_to (λ p. worth (at xs p)) n
total_to xs zero le = refl
total_to xs (suc n) le =
    let one : n + 1 ≡ suc n = omega arith in
    omega (arith, ap (λ (k : ℕ). sum_by worth (take k xs)) one, sum_by_more worth xs n dead le, total_to xs n (omega arith))

sum_same : (f g : ℕ → ℕ) (n : ℕ) → ((p : ℕ) → p < n → f p ≡ g p) → sum_to f n ≡ sum_to g n
sum_same f g zero each = refl
sum_same f g (suc n) each = omega (arith, sum_same f g n (λ p lt. each p (omega arith)), each n (omega arith))

-- the first guide's sum over pairs that are live now is that of the guide as open left it
pub over_total : (v : Site) (w : Fit (machine v) v.chart) (first : List ℕ) (asks : (q : Question) → Asks v first q) (guide : List ℕ) (marked : Marked (land_of v) first guide) →
    (now : List ℕ) → length now ≡ (land_of v).pairs → ((p : ℕ) → p < (land_of v).pairs → Decides (live (at now p)) (Live (land_of v) p)) → over now first ≡ total guide
over_total v w first asks guide marked now long on =
    let n = length now in
    let same_worth : (p : ℕ) → p < n → cond (live (at now p)) (at first p) 0 ≡ worth (at guide p) = λ p lt.
    let lo : p < (land_of v).pairs = omega (arith, lt, long) in
    let was = marks v w first asks guide marked p lo in
    ⊎_elim
    (λ (e : live (at now p) ≡ true).
    let lf = (on p lo).0 e in
    ap (λ (b : Bool). cond {A = ℕ} b (at first p) 0) e ∙ (sym (same v w first asks guide marked p lo lf) ∙ sym (worth_live (at guide p) (was.1 lf))))
    (λ (e : live (at now p) ≡ false). ⊎_elim
    (λ (e₂ : live (at guide p) ≡ true). absurd (both_ways _ e ((on p lo).1 (was.0 e₂))))
    (λ (e₂ : live (at guide p) ≡ false). ap (λ (b : Bool). cond {A = ℕ} b (at first p) 0) e ∙ sym (ap (λ (b : Bool). cond {A = ℕ} b (at guide p) 0) e₂))
    (cases_Bool (live (at guide p))))
    (cases_Bool (live (at now p))) in
    let long₂ : n ≡ length guide = long ∙ sym marked.long in
    sum_same (λ p. cond (live (at now p)) (at first p) 0) (λ p. worth (at guide p)) n same_worth
    ∙ (ap (sum_to (λ p. worth (at guide p))) long₂ ∙ (sym (total_to guide (length guide) (omega arith)) ∙ ap (sum_by worth) (take_all (length guide) guide (omega arith))))

-- one guide only
pub one_marked : (L : Land) (first g₁ g₂ : List ℕ) → Marked L first g₁ → Marked L first g₂ → g₁ ≡ g₂
one_marked L first g₁ g₂ a b = ext_get_or dead g₁ g₂ (a.long ∙ sym b.long) (λ p lt.
    let lo : p < L.pairs = omega (arith, lt, a.long) in
    ⊎_elim
    (λ (x : Live L p × (at g₁ p ≡ at first p)). ⊎_elim
    (λ (y : Live L p × (at g₂ p ≡ at first p)). x.1 ∙ sym y.1)
    (λ (y : (Live L p → ⊥) × (at g₂ p ≡ dead)). absurd (y.0 x.0))
    (b.each p lo))
    (λ (x : (Live L p → ⊥) × (at g₁ p ≡ dead)). ⊎_elim
    (λ (y : Live L p × (at g₂ p ≡ at first p)). absurd (x.0 y.0))
    (λ (y : (Live L p → ⊥) × (at g₂ p ≡ dead)). x.1 ∙ sym y.1)
    (b.each p lo))
    (a.each p lo))
