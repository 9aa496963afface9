-- The ground of a machine and a chart.
use Rattle.std.proofs.Common.{◌≡◌, ℕ, zero, suc, ◌-◌, ◌*◌, ◌<◌, ◌≤◌, true, List, [], ◌∷◌, ◌++◌, length, set, replicate, refl, ap, ⊎_elim, le_refl, mul_comm, mul-zero, arith}
use Rattle.std.proofs.lemmas.Nat.{mul-le, mul-add-lt, div-mul-add, mod-mul-add, mod_below}
use Rattle.std.proofs.lemmas.List.{get_or-set_other, get_or-set_same, set_past, length-replicate, get_or-replicate}
use Rattle.std.proofs.lemmas.List.Sums.{count_by-le-length}
use Rattle.std.proofs.lemmas.Bool.{cases_lt, cases_eq, and_parts, ltb-true, eqb-true, not_from_false, ne_eqb}
use Rattle.std.proofs.lemmas.Option.{slice_get-get_or}
use Rattle.chart.specs.Chart.{Plan, Within, LegWithin}
use Rattle.ltlf.specs.Ltlf.{Ltlf}
use Rattle.ltlf.specs.Numbering.{states}
use Rattle.ltlf.proofs.ByNumber.{first_known, next_known}
use Rattle.law.specs.Grounds.{Live, dearest}
use Rattle.law.specs.Guides.{dead, live, lives, Agrees}
use Rattle.law.specs.Charts.{Machine, machine_of, leg, letter, today, pair, station, state, land, ground_of, Joined}
use Rattle.law.proofs.Paths.{Sound, bounded}

-- Numbers of states are below their count, legs join stations and take 1 to 1,000 seconds, and there are at most 16,384 pairs.
pub record Fit (m : Machine) (c : Plan) : Type 0 where
  pub first : (a : ℕ) → a < m.letters → m.first a < m.states
  pub next : (q a : ℕ) → q < m.states → a < m.letters → m.next q a < m.states
  pub joins : (l : ℕ) → l < length c.legs → ((leg c l).from < length c.letters) × ((leg c l).to < length c.letters)
  pub seconds : (l : ℕ) → l < length c.legs → (1 ≤ (leg c l).seconds) × ((leg c l).seconds ≤ 1000)
  pub pairs : length c.letters * m.states ≤ 16384

-- a formula of few states and a chart within its limits
pub fit : (f : Ltlf) (n : ℕ) (c : Plan) → length (states f n) ≤ 64 → Within c → Fit (machine_of f n) c
fit f n c few w = record {
  first = first_known f n few;
  next = next_known f n few;
  joins = λ l lt. let s = leg_within l lt in (s.0, s.1);
  seconds = λ l lt. let s = leg_within l lt in (s.2, s.3);
  pairs = mul-le (length c.letters) (length (states f n)) 256 64 w.few few;
}
  where
    leg_within : (l : ℕ) → l < length c.legs → LegWithin (length c.letters) (leg c l)
    leg_within l lt = w.sound l (leg c l) (slice_get-get_or c.legs l _ lt)

positive : (n a b : ℕ) → n < a * b → 0 < b
positive n a b lt = ⊎_elim (λ (h : 0 < b). h) (λ (h : b ≤ 0). absurd (omega (arith, mul-le a b a 0 (le_refl a) h, mul-zero a))) (cases_lt 0 b)

module _ (m : Machine) (c : Plan) (w : Fit m c) (ok : (t : ℕ) → t < length c.letters → letter c t < m.letters) where
  pub pair_low : (s q : ℕ) → s < length c.letters → q < m.states → pair m s q < length c.letters * m.states
  pair_low s q a b = omega (arith, mul-add-lt s m.states q (length c.letters) a b, mul_comm m.states (length c.letters))

  pub state_low : (p : ℕ) → p < length c.letters * m.states → state m p < m.states
  state_low p lt = mod_below p m.states (positive p (length c.letters) m.states lt)

  -- what a leg that leaves a pair is, and where it leads
  pub leg_parts : (p l : ℕ) → (land m c).leaves p l ≡ true → (l < length c.legs) × ((leg c l).from ≡ station m p)
  leg_parts p l e = let r = and_parts _ _ e in (ltb-true _ _ r.0, eqb-true _ _ r.1)

  pub next_low : (p l : ℕ) → p < length c.letters * m.states → l < length c.legs → m.next (state m p) (letter c (leg c l).to) < m.states
  next_low p l lt lo = w.next _ _ (state_low p lt) (ok _ (w.joins l lo).1)

  pub to_station : (p l : ℕ) → p < length c.letters * m.states → (land m c).leaves p l ≡ true → station m ((land m c).to p l) ≡ (leg c l).to
  to_station p l lt lv = div-mul-add _ m.states _ (next_low p l lt (leg_parts p l lv).0)

  pub to_state : (p l : ℕ) → p < length c.letters * m.states → (land m c).leaves p l ≡ true
      → state m ((land m c).to p l) ≡ m.next (state m p) (letter c (leg c l).to)
  to_state p l lt lv = mod-mul-add _ m.states _ (next_low p l lt (leg_parts p l lv).0)

  module _ (drags : List ℕ) where
    pub sound : Sound (ground_of m c drags)
    sound = record {
      within = λ p l lt lv. let r = leg_parts p l lv in pair_low _ _ (w.joins l r.0).1 (next_low p l lt r.0);
      counted = λ p l lv. (leg_parts p l lv).0;
      takes = λ l lo. omega (arith, (w.seconds l lo).0);
    }

    pub dear : (n : ℕ) → ((l : ℕ) → l < n → today c drags l ≤ 1000) → dearest (ground_of m c drags) n ≤ 1000
    dear zero each = omega arith
    dear (suc n) each = omega (arith, dear n (λ l lt. each l (omega arith)), each n (omega arith))

    -- an agreeing guide has no dead mark at a live pair
    pub unmarked : ((l : ℕ) → l < length c.legs → today c drags l ≤ 1000) → (h : ℕ → ℕ) → Agrees (ground_of m c drags) h →
        (p : ℕ) → p < length c.letters * m.states → Live (land m c) p → live (h p) ≡ true
    unmarked times h agrees p lt lf =
        let n = length c.letters * m.states in
        let all = replicate n 0 in
        let d = dearest (ground_of m c drags) (length c.legs) in
        let b = bounded (ground_of m c drags) sound all (λ q lo _. ap live (get_or-replicate n q 0 dead lo)) h agrees p lt lf in
        let few = count_by-le-length live all in
        let long = length-replicate {A = ℕ} n 0 in
        let big = mul-le (lives all - 1) d 16384 1000 (omega (arith, few, long, w.pairs)) (dear (length c.legs) times) in
        not_from_false _ (ne_eqb (h p) dead (λ e. omega (arith, b, big, e)))

-- a drag raises one leg's time
module _ (c : Plan) (drags : List ℕ) (l w : ℕ) (more : today c drags l < w) where
  pub time_rises : (k : ℕ) → today c drags k ≤ today c (set drags l (w - (leg c l).seconds)) k
  time_rises k = ⊎_elim
      (λ (e : k ≡ l). ⊎_elim
      (λ (lt : l < length drags).
      omega (arith, more, ap (today c drags) e, ap (today c (set drags l (w - (leg c l).seconds))) e, get_or-set_same drags l (w - (leg c l).seconds) 0 lt))
      (λ (le : length drags ≤ l). omega (arith, ap (λ (x : List ℕ). today c x k) (set_past drags l (w - (leg c l).seconds) le)))
      (cases_lt l (length drags)))
      (λ (ne : k ≡ l → ⊥). omega (arith, get_or-set_other drags l k (w - (leg c l).seconds) 0 ne))
      (cases_eq k l)

  pub time_most : w ≤ 1000 → (k : ℕ) → today c drags k ≤ 1000 → today c (set drags l (w - (leg c l).seconds)) k ≤ 1000
  time_most few k le = ⊎_elim
      (λ (e : k ≡ l). ⊎_elim
      (λ (lt : l < length drags).
      omega (arith, few, more, ap (today c (set drags l (w - (leg c l).seconds))) e, get_or-set_same drags l (w - (leg c l).seconds) 0 lt))
      (λ (past : length drags ≤ l). omega (arith, le, ap (λ (x : List ℕ). today c x k) (set_past drags l (w - (leg c l).seconds) past)))
      (cases_lt l (length drags)))
      (λ (ne : k ≡ l → ⊥). omega (arith, le, get_or-set_other drags l k (w - (leg c l).seconds) 0 ne))
      (cases_eq k l)

-- one station more
abbrev pub final : ℕ → List ℕ → ℕ
final s [] = s
final s (t ∷ ts) = final t ts

pub final_more : (s : ℕ) (ts : List ℕ) (t : ℕ) → final s (ts ++ t ∷ []) ≡ t
final_more s [] t = refl
final_more s (u ∷ us) t = final_more u us t

pub joined_more : (c : Plan) (s : ℕ) (ts : List ℕ) (t : ℕ) → Joined c (s ∷ ts)
    → ((l : ℕ) × (l < length c.legs) × ((leg c l).from ≡ final s ts) × ((leg c l).to ≡ t)) → Joined c (s ∷ (ts ++ t ∷ []))
joined_more c s [] t j g = (g, tt)
joined_more c s (u ∷ us) t j g = (j.0, joined_more c u us t j.1 g)
