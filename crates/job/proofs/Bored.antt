-- The chart of a job that is held.
use Rattle.std.specs.List.{list_all}
use Rattle.std.proofs.Common.{◌≡◌, ℕ, ◌^◌, ◌≤◌, Bool, true, ◌&&◌, ltb, leb, List, [], ◌∷◌, length, None, refl, arith}
use Rattle.std.proofs.lemmas.Bool.{and_parts, and_from, cond-true, ltb-true, lt-ltb}
use Rattle.chart.specs.Faults.{bore_fault, table_fault}
use Rattle.chart.specs.Limits.{among, legs_sound, zone_sound, zones_sound}
use Rattle.chart.specs.declared.leg.Leg.{Leg}
use Rattle.chart.specs.declared.leg.Zone.{Zone}
use Rattle.job.specs.Contents.{Layout, unset, table, bore, Contents, zone_fits, layout_within}
use Rattle.job.specs.Holding.{right_if}
use Rattle.job.specs.Plans.{layout_fault, layout_plan, plan_if}
use Rattle.job.proofs.Wrote.{sides}

-- a zone whose mark is one of p is sound, since p is at most 6
zone_sound_is : (p n : ℕ) (z : Zone) → p ≤ 6 → zone_fits p n z ≡ true → zone_sound n z ≡ true
zone_sound_is p n z l e =
    let s = and_parts (leb z.first z.last && ltb z.last n) (ltb z.mark p) e in
    and_from _ _ s.0 (lt-ltb _ _ (omega (arith, ltb-true z.mark p s.1)))

zones_sound_is : (p n : ℕ) (zs : List Zone) → p ≤ 6 → list_all (zone_fits p n) zs ≡ true → zones_sound n zs ≡ true
zones_sound_is p n [] l e = refl
zones_sound_is p n (z ∷ zs) l e =
    let s = and_parts (zone_fits p n z) (list_all (zone_fits p n) zs) e in
    and_from _ _ (zone_sound_is p n z l s.0) (zones_sound_is p n zs l s.1)

-- a bore within the limits is not refused
bore_passes : (p n d u : ℕ) (zs : List Zone) → p ≤ 6 → layout_within p (bore n d u zs) ≡ true → bore_fault n d u zs ≡ None
bore_passes p n d u zs l e =
    let s = and_parts (among 1 256 n && (among 1 1000 d && among 1 1000 u)) (leb (length zs) 8 && list_all (zone_fits p n) zs) e in
    let t = and_parts (leb (length zs) 8) (list_all (zone_fits p n) zs) s.1 in
    rw (s.0, t.0, zones_sound_is p n zs l t.1) refl

-- a table within the limits is not refused
table_passes : (p : ℕ) (letters : List ℕ) (legs : List Leg) → layout_within p (table letters legs) ≡ true → table_fault letters legs ≡ None
table_passes p letters legs e =
    let s = and_parts (among 1 256 (length letters) && list_all (λ a. ltb a (2 ^ p)) letters) _ e in
    let t = and_parts (leb (length legs) 1024) (legs_sound (length letters) legs) s.1 in
    rw ((and_parts (among 1 256 (length letters)) _ s.0).0, t.0, t.1) refl

layout_passes : (p : ℕ) (c : Layout) → p ≤ 6 → layout_within p c ≡ true → layout_fault c ≡ None
layout_passes p unset l e = refl
layout_passes p (table letters legs) l e = table_passes p letters legs e
layout_passes p (bore n d u zs) l e = bore_passes p n d u zs l e

-- the chart of a job that is held is not refused, and is what the job means
pub held_chart : (held : Bool) (j : Contents) → held ≡ true → right_if held j ≡ true → j.marks ≤ 6
    → (layout_fault j.chart ≡ None) × (plan_if held j ≡ layout_plan j.chart)
held_chart held j h right l =
    let w = (and_parts _ _ (and_parts _ _ (sides held j right h).0).0).0 in
    (layout_passes j.marks j.chart l (and_parts _ _ w).1, cond-true held _ _ h)
