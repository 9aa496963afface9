-- A chart with a line more.
use Rattle.std.specs.List.{list_all}
use Rattle.std.proofs.Common.{◌≡◌, ℕ, zero, suc, ◌+◌, ◌^◌, ◌<◌, ◌≤◌, Bool, true, leb, List, [], ◌∷◌, ◌++◌, map, length, set, replicate, sym, refl, ap, ◌∙◌, append_assoc, arith, length-set}
use Rattle.std.proofs.lemmas.List.{append-nil, map_push, length_push}
use Rattle.std.proofs.lemmas.Bool.{and_parts, and_from, le-leb, lt-ltb}
use Rattle.chart.specs.Limits.{among, leg_sound}
use Rattle.chart.specs.declared.leg.Leg.{Leg}
use Rattle.chart.specs.declared.leg.Zone.{Zone}
use Rattle.job.specs.Contents.{Layout, unset, table, bore, stations_in, legs_in, zones_in, zone_fits, layout_within}
use Rattle.job.specs.Rows.{stations, label, leg, boring, zone, label_rows, layout_rows}
use Rattle.job.specs.Taking.{with_label, with_leg, with_zone}
use Rattle.job.proofs.Letters.{ZeroFrom, zero_set, set_rows}

-- lists whose elements all pass a test
passes_push : {X : Type 0} (test : X → Bool) (xs : List X) (x : X) → list_all test xs ≡ true → test x ≡ true → list_all test (xs ++ x ∷ []) ≡ true
passes_push test [] x e t = and_from (test x) true t refl
passes_push test (y ∷ xs) x e t = let p = and_parts (test y) (list_all test xs) e in and_from _ _ p.0 (passes_push test xs x p.1 t)

passes_set : (test : ℕ → Bool) (xs : List ℕ) (i x : ℕ) → list_all test xs ≡ true → test x ≡ true → list_all test (set xs i x) ≡ true
passes_set test [] i x e t = refl
passes_set test (y ∷ xs) zero x e t = and_from _ _ t (and_parts (test y) (list_all test xs) e).1
passes_set test (y ∷ xs) (suc i) x e t = let p = and_parts (test y) (list_all test xs) e in and_from _ _ p.0 (passes_set test xs i x p.1 t)

pub passes_replicate : (test : ℕ → Bool) (n x : ℕ) → test x ≡ true → list_all test (replicate n x) ≡ true
passes_replicate test zero x t = refl
passes_replicate test (suc n) x t = and_from _ _ t (passes_replicate test n x t)

-- a table without legs whose letters are 0 from a station on; a table; a bore
abbrev pub Labelled : ℕ → Layout → Type 0
Labelled k unset = ⊥
Labelled k (table letters legs) = (legs ≡ []) × ZeroFrom k letters
Labelled k (bore n d u zones) = ⊥

abbrev pub IsTable : Layout → Type 0
IsTable unset = ⊥
IsTable (table letters legs) = Unit {0}
IsTable (bore n d u zones) = ⊥

abbrev pub IsBore : Layout → Type 0
IsBore unset = ⊥
IsBore (table letters legs) = ⊥
IsBore (bore n d u zones) = Unit {0}

-- a chart with a label, a leg or a zone more has its line more, and is within its limits
pub label_more : (q k s a : ℕ) (c : Layout) → k ≤ s → s < stations_in c → 1 ≤ a → a < 2 ^ q → layout_within q c ≡ true → Labelled k c
    → (layout_rows (with_label s a c) ≡ layout_rows c ++ label s a ∷ []) × (layout_within q (with_label s a c) ≡ true) × Labelled (suc s) (with_label s a c)
label_more q k s a unset l h o b w t = absurd t
label_more q k s a (table letters (x ∷ legs)) l h o b w t = let z : ◌≡◌ {A = ℕ} 0 1 = cc in absurd (omega arith)
label_more q k s a (table letters []) l h o b w t =
    let u = and_parts _ _ w in
    let v = and_parts (among 1 256 (length letters)) _ u.0 in
    let n : 0 + s ≡ s = omega arith in (
      cc (append-nil (label_rows 0 (set letters s a)), append-nil (label_rows 0 letters), length-set letters s a, set_rows 0 k s a letters l h o t.1),
      and_from _ _ (and_from _ _ (ap (among 1 256) (length-set letters s a) ∙ v.0) (passes_set _ letters s a v.1 (lt-ltb a (2 ^ q) b))) refl,
      (refl, zero_set k s a letters l t.1),
    )
label_more q k s a (bore n d u zones) l h o b w t = absurd t

pub leg_more : (q : ℕ) (l : Leg) (c : Layout) → leg_sound (stations_in c) l ≡ true → legs_in c < 1024 → layout_within q c ≡ true → IsTable c
    → (layout_rows (with_leg l c) ≡ layout_rows c ++ leg l ∷ []) × (layout_within q (with_leg l c) ≡ true) × IsTable (with_leg l c)
leg_more q l unset e h w t = absurd t
leg_more q l (table letters legs) e h w t =
    let u = and_parts _ _ w in
    let v = and_parts (leb (length legs) 1024) _ u.1 in (
      ap (λ x. stations (length letters) ∷ x)
          (ap (λ x. label_rows 0 letters ++ x) (map_push leg legs l) ∙ sym (append_assoc (label_rows 0 letters) (map leg legs) (leg l ∷ []))),
      and_from _ _ u.0 (and_from _ _ (le-leb (length (legs ++ l ∷ [])) 1024 (omega (arith, length_push legs l))) (passes_push _ legs l v.1 e)),
      tt,
    )
leg_more q l (bore n d u zones) e h w t = absurd t

pub zone_more : (q : ℕ) (z : Zone) (c : Layout) → zone_fits q (stations_in c) z ≡ true → zones_in c < 8 → layout_within q c ≡ true → IsBore c
    → (layout_rows (with_zone z c) ≡ layout_rows c ++ zone z ∷ []) × (layout_within q (with_zone z c) ≡ true) × IsBore (with_zone z c)
zone_more q z unset e h w t = absurd t
zone_more q z (table letters legs) e h w t = absurd t
zone_more q z (bore n d u zones) e h w t =
    let x = and_parts _ _ w in
    let v = and_parts (leb (length zones) 8) _ x.1 in (
      ap (λ y. boring n d u ∷ y) (map_push zone zones z),
      and_from _ _ x.0 (and_from _ _ (le-leb (length (zones ++ z ∷ [])) 8 (omega (arith, length_push zones z))) (passes_push _ zones z v.1 e)),
      tt,
    )
