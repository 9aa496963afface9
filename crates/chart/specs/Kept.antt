-- Tables and bores within their limits are charts within theirs.
use Rattle.std.specs.Prelude.{◌≡◌, ℕ, zero, suc, ◌+◌, ◌-◌, ◌*◌, ◌<◌, ◌≤◌, true, List, [], ◌∷◌, length, Some, refl}
use Rattle.std.proofs.Common.{sym, subst, arith}
use Rattle.std.specs.List.{range_with_len, flat_map, slice_get}
use Rattle.std.proofs.lemmas.List.FromFn.{length-map-range_with_len}
use Rattle.std.proofs.lemmas.Bool.{and_parts, ltb-true, leb-true}
use Rattle.chart.specs.declared.leg.Leg.{Leg}
use Rattle.chart.specs.declared.leg.Zone.{Zone}
use Rattle.chart.specs.Limits.{leg_sound, legs_sound}
use Rattle.chart.specs.Chart.{LegWithin, Within}
use Rattle.chart.specs.Bores.{zone_letter, leg_down, leg_up, leg_pair, bore_plan}

-- a leg that passes the test is within its limits
leg_within : (n : ℕ) (l : Leg) → leg_sound n l ≡ true → LegWithin n l
leg_within n l e =
    let p = and_parts _ _ e in
    let ends = and_parts _ _ p.0 in
    let seconds = and_parts _ _ p.1 in
    (ltb-true l.from n ends.0, ltb-true l.to n ends.1, leb-true 1 l.seconds seconds.0, leb-true l.seconds 1000 seconds.1)

legs_within : (n : ℕ) (ls : List Leg) → legs_sound n ls ≡ true → (k : ℕ) (l : Leg) → slice_get ls k ≡ Some l → LegWithin n l
legs_within n [] e k l h = let z : ◌≡◌ {A = ℕ} 0 1 = cc in let none : ⊥ = omega arith in absurd none
legs_within n (x ∷ ls) e zero l h = let same : x ≡ l = cc in subst (LegWithin n) same (leg_within n x (and_parts _ _ e).0)
legs_within n (x ∷ ls) e (suc k) l h = legs_within n ls (and_parts _ _ e).1 k l h

pub table_within : (letters : List ℕ) (legs : List Leg)
    → 1 ≤ length letters → length letters ≤ 256 → length legs ≤ 1024 → legs_sound (length letters) legs ≡ true → Within (record { letters = letters; legs = legs })
table_within letters legs some few short sound = record { some = some; few = few; short = short; sound = legs_within (length letters) legs sound }

-- how many legs the pairs are
pub length_pairs : (down up a m : ℕ) → length (flat_map (leg_pair down up) (range_with_len a m)) ≡ 2 * m
length_pairs down up a zero = refl
length_pairs down up a (suc m) = let rest = length_pairs down up (a + 1) m in omega arith

-- each leg of the pairs from station a on is within the limits of n stations
pairs_within : (n down up : ℕ) → (1 ≤ down) × (down ≤ 1000) × (1 ≤ up) × (up ≤ 1000) → (m a : ℕ) → a + m < n
    → (k : ℕ) (l : Leg) → slice_get (flat_map (leg_pair down up) (range_with_len a m)) k ≡ Some l → LegWithin n l
pairs_within n down up paced zero a h k l e = let z : ◌≡◌ {A = ℕ} 0 1 = cc in let none : ⊥ = omega arith in absurd none
pairs_within n down up paced (suc m) a h zero l e = let same : leg_down down a ≡ l = cc in subst (LegWithin n) same (omega arith, omega arith, paced.0, paced.1)
pairs_within n down up paced (suc m) a h (suc zero) l e = let same : leg_up up a ≡ l = cc in subst (LegWithin n) same (omega arith, omega arith, paced.2, paced.3)
pairs_within n down up paced (suc m) a h (suc (suc k)) l e = pairs_within n down up paced m (a + 1) (omega arith) k l e

pub bore_within : (n down up : ℕ) (zones : List Zone)
    → 1 ≤ n → n ≤ 256 → (1 ≤ down) × (down ≤ 1000) × (1 ≤ up) × (up ≤ 1000) → Within (bore_plan n down up zones)
bore_within n down up zones some few paced =
    let long = length-map-range_with_len (zone_letter zones) 0 n in record {
      some = omega (arith, long);
      few = omega (arith, long);
      short = omega (arith, length_pairs down up 0 (n - 1));
      sound = λ k l e. subst (λ (x : ℕ). LegWithin x l) (sym long) (pairs_within n down up paced (n - 1) 0 (omega arith) k l e);
    }
