-- The legs of a bore by their numbers.
use Rattle.std.proofs.Common.{◌≡◌, ℕ, zero, suc, ◌+◌, ◌-◌, ◌*◌, ◌<◌, ◌≤◌, ◌⊎◌, List, Some, ap, inl, inr, ⊎_elim, arith}
use Rattle.std.specs.List.{range_with_len, flat_map, slice_get}
use Rattle.chart.specs.declared.leg.Leg.{Leg}
use Rattle.chart.specs.declared.leg.Zone.{Zone}
use Rattle.chart.specs.Chart.{Leaves}
use Rattle.chart.specs.Bores.{leg_down, leg_up, leg_pair, bore_plan}

module _ (down up : ℕ) where
  -- the pairs of legs from station a on, of m stations
  abbrev pairs : ℕ → ℕ → List Leg
  pairs a m = flat_map (leg_pair down up) (range_with_len a m)

  -- leg 2i is the one down from the i-th station, and leg 2i + 1 the one up to it
  pair_down : (m a i j k : ℕ) → i < m → a + i ≡ j → k ≡ 2 * i → slice_get (pairs a m) k ≡ Some (leg_down down j)
  pair_down zero a i j k h s e = let none : ⊥ = omega arith in absurd none
  pair_down (suc m) a i j zero h s e = ap (λ (x : ℕ). Some (leg_down down x)) (omega arith)
  pair_down (suc m) a i j (suc zero) h s e = let none : ⊥ = omega arith in absurd none
  pair_down (suc m) a i j (suc (suc k)) h s e = pair_down m (a + 1) (i - 1) j k (omega arith) (omega arith) (omega arith)

  pair_up : (m a i j k : ℕ) → i < m → a + i ≡ j → k ≡ 2 * i + 1 → slice_get (pairs a m) k ≡ Some (leg_up up j)
  pair_up zero a i j k h s e = let none : ⊥ = omega arith in absurd none
  pair_up (suc m) a i j zero h s e = let none : ⊥ = omega arith in absurd none
  pair_up (suc m) a i j (suc zero) h s e = ap (λ (x : ℕ). Some (leg_up up x)) (omega arith)
  pair_up (suc m) a i j (suc (suc k)) h s e = pair_up m (a + 1) (i - 1) j k (omega arith) (omega arith) (omega arith)

  -- a leg leaves the station that its number says
  pair_from : (m a k : ℕ) (l : Leg) → slice_get (pairs a m) k ≡ Some l
      → ((k + 2 * a ≡ 2 * l.from) × (l.from < a + m)) ⊎ ((k + 2 * a + 1 ≡ 2 * l.from) × (l.from ≤ a + m))
  pair_from zero a k l e = let z : ◌≡◌ {A = ℕ} 0 1 = cc in let none : ⊥ = omega arith in absurd none
  pair_from (suc m) a zero l e =
      let leg : leg_down down a ≡ l = cc in
      let from = ap (λ (x : Leg). x.from) leg in
      inl (omega arith, omega arith)
  pair_from (suc m) a (suc zero) l e =
      let leg : leg_up up a ≡ l = cc in
      let from = ap (λ (x : Leg). x.from) leg in
      inr (omega arith, omega arith)
  pair_from (suc m) a (suc (suc k)) l e = ⊎_elim
      (λ (d : (k + 2 * (a + 1) ≡ 2 * l.from) × (l.from < a + 1 + m)). inl (omega (arith, d.0), omega (arith, d.1)))
      (λ (u : (k + 2 * (a + 1) + 1 ≡ 2 * l.from) × (l.from ≤ a + 1 + m)). inr (omega (arith, u.0), omega (arith, u.1)))
      (pair_from m (a + 1) k l e)

-- the legs of a bore of n stations
pub leg_down_is : (n down up i k : ℕ) → i + 1 < n → k ≡ 2 * i → slice_get (pairs down up 0 (n - 1)) k ≡ Some (leg_down down i)
leg_down_is n down up i k h e = pair_down down up (n - 1) 0 i i k (omega arith) (omega arith) e

pub leg_up_is : (n down up i k : ℕ) → i + 1 < n → k ≡ 2 * i + 1 → slice_get (pairs down up 0 (n - 1)) k ≡ Some (leg_up up i)
leg_up_is n down up i k h e = pair_up down up (n - 1) 0 i i k (omega arith) (omega arith) e

-- a leg that leaves station s is the one down from it or the one up from it
pub bore_leaves : (n down up : ℕ) (zones : List Zone) (s k : ℕ) → Leaves (bore_plan n down up zones) s k
    → ((k ≡ 2 * s) × (s + 1 < n)) ⊎ ((k + 1 ≡ 2 * s) × (s < n))
bore_leaves n down up zones s k w = ⊎_elim
    (λ (d : (k + 2 * 0 ≡ 2 * w.0.from) × (w.0.from < 0 + (n - 1))). inl (omega (arith, d.0, w.2), omega (arith, d.1, w.2)))
    (λ (u : (k + 2 * 0 + 1 ≡ 2 * w.0.from) × (w.0.from ≤ 0 + (n - 1))). inr (omega (arith, u.0, w.2), omega (arith, u.0, u.1, w.2)))
    (pair_from down up (n - 1) 0 k w.0 w.1)
