-- The lines of a job within the limits, taken one after the other, lead to that job.
use Rattle.std.specs.List.{list_all}
use Rattle.std.proofs.Common.{◌≡◌, ℕ, suc, ◌+◌, ◌-◌, ◌^◌, ◌<◌, ◌≤◌, Bool, true, false, cond, ◌&&◌, eqb, ltb, leb, List, [], ◌∷◌, ◌++◌, map, length, replicate, Some, None, Ok, Err, codes, Option, Result, sym, refl, ap, ◌∙◌, subst, append_assoc, arith, length-append, pow_mono}
use Rattle.std.proofs.lemmas.List.{append-nil, length_push, set_at}
use Rattle.std.proofs.lemmas.Bool.{cond-true, and_parts, and_from, leb-true, ltb-true, eqb-true, eqb-false, le-leb, lt-ltb, ne_eqb}
use Rattle.chart.specs.Limits.{among, leg_sound, legs_sound}
use Rattle.chart.specs.declared.leg.Leg.{Leg}
use Rattle.chart.specs.declared.leg.Zone.{Zone}
use Rattle.task.specs.Faults.{task_fault}
use Rattle.task.specs.declared.fault.Fault.{Fault as TaskFault}
use Rattle.job.specs.declared.fault.Fault.{Fault}
use Rattle.job.specs.declared.place.Place.{Place}
use Rattle.job.specs.declared.place.Place.TheVariants as at
use Rattle.job.specs.Contents.{Layout, unset, table, bore, Contents, stations_in, zone_fits, layout_within, no_fault, within}
use Rattle.job.specs.Rows.{Row, label, leg, zone, label_rows, layout_rows, rows_of}
use Rattle.job.specs.Taking.{Draft, blank, rank, ask, limited, tasked}
use Rattle.job.proofs.Broken.{Takes, stay, go, takes_append}
use Rattle.job.proofs.Goods.{numbers_good, task_good}

-- a question is answered yes
yes : (b : Bool) (f : Fault) (r : Result Draft Fault) (m : Draft) → b ≡ true → r ≡ Ok m → ask b f r ≡ Ok m
yes b f r m e k = cond-true b r (Err f) e ∙ k

-- a range, from and to its bounds
in_range : (low high n : ℕ) → low ≤ n → n ≤ high → among low high n ≡ true
in_range low high n l h = and_from (leb low n) (leb n high) (le-leb _ _ l) (le-leb _ _ h)

range : (low high n : ℕ) → among low high n ≡ true → (low ≤ n) × (n ≤ high)
range low high n e = let p = and_parts (leb low n) (leb n high) e in (leb-true _ _ p.0, leb-true _ _ p.1)

-- a job of some marks and a chart, and nothing more yet
abbrev drawn : Place → ℕ → Layout → Draft
drawn p q c = record { place = p; job = record { marks = q; chart = c; task = []; start = 0; lookahead = 0 } }

-- labels, one after another, for the letters after some
abbrev Labels : ℕ → ℕ → List ℕ → List Row → List ℕ → Type 0
Labels q k now rows aim = (i : ℕ) × Takes (drawn (at.Labels k) q (table now [])) rows (drawn (at.Labels i) q (table aim []))

labels_take : (q k : ℕ) (front letters : List ℕ) → q ≤ 6 → k ≤ length front → length front + length letters ≤ 256
    → list_all (λ a. ltb a (2 ^ q)) letters ≡ true → Labels q k (front ++ replicate (length letters) 0) (label_rows (length front) letters) (front ++ letters)
labels_take q k front [] l h o e = (k, stay)
labels_take q k front (a ∷ letters) l h o e =
    let p = and_parts (ltb a (2 ^ q)) (list_all (λ a. ltb a (2 ^ q)) letters) e in
    by (eqb a 0) refl (ltb-true _ _ p.0)
    (λ i f. labels_take q i (front ++ a ∷ []) letters l f (omega (arith, length_push front a)) p.1) where
      Later : Type 0
      Later = (i : ℕ) → i ≤ length (front ++ a ∷ [])
          → Labels q i ((front ++ a ∷ []) ++ replicate (length letters) 0) (label_rows (length (front ++ a ∷ [])) letters) ((front ++ a ∷ []) ++ letters)

      later : Later → (i : ℕ) → i ≤ suc (length front)
          → Labels q i (front ++ a ∷ replicate (length letters) 0) (label_rows (suc (length front)) letters) (front ++ a ∷ letters)
      later f i b =
          let n : length (front ++ a ∷ []) ≡ suc (length front) = omega (arith, length_push front a) in
          rw (append_assoc front (a ∷ []) (replicate (length letters) 0), append_assoc front (a ∷ []) letters, n) at (f i (omega arith))

      by : (b : Bool) → eqb a 0 ≡ b → a < 2 ^ q → Later
          → Labels q k (front ++ 0 ∷ replicate (length letters) 0)
          (cond b (label_rows (suc (length front)) letters) (label (length front) a ∷ label_rows (suc (length front)) letters)) (front ++ a ∷ letters)
      by true y small f =
          subst (λ (x : ℕ). Labels q k (front ++ x ∷ replicate (length letters) 0) (label_rows (suc (length front)) letters) (front ++ a ∷ letters)) (eqb-true a 0 y)
          (later f k (omega arith))
      by false y small f =
          let r = later f (suc (length front)) (omega arith) in
          let pow : 2 ^ q ≤ 2 ^ 6 = pow_mono l in
          let n = length-append front (0 ∷ replicate (length letters) 0) in (
            r.0,
            go (numbers_good (codes "label") (length front ∷ (a ∷ [])) (omega arith) refl (omega arith, (omega arith, tt))) refl
                (yes _ _ _ _
                (and_from _ _ (and_from _ _ (le-leb k (length front) h) (lt-ltb (length front) (length (front ++ 0 ∷ replicate (length letters) 0)) (omega arith)))
                (in_range 1 (2 ^ q - 1) a (omega (arith, eqb-false a 0 y)) (omega arith)))
                (ap (λ x. Ok (drawn (at.Labels (suc (length front))) q (table x []))) (set_at front 0 (replicate (length letters) 0) a (length front) refl)))
                r.1,
          )

-- legs, one after another, from a place at which a leg may stand
legs_take : (q : ℕ) (p : Place) (letters : List ℕ) (front legs : List Leg) → 3 ≤ rank p → rank p ≤ 4 → length letters ≤ 256
    → length front + length legs ≤ 1024 → legs_sound (length letters) legs ≡ true
    → (i : Place) × (3 ≤ rank i) × (rank i ≤ 4) × Takes (drawn p q (table letters front)) (map leg legs) (drawn i q (table letters (front ++ legs)))
legs_take q p letters front [] b t n o e = (p, b, t, subst (λ (x : List Leg). Takes (drawn p q (table letters front)) [] (drawn p q (table letters x))) (sym (append-nil front)) stay)
legs_take q p letters front (l ∷ legs) b t n o e =
    let s = and_parts (leg_sound (length letters) l) (legs_sound (length letters) legs) e in
    let u = and_parts (ltb l.from (length letters) && ltb l.to (length letters)) _ s.0 in
    let v = and_parts (ltb l.from (length letters)) _ u.0 in
    let w = range 1 1000 l.seconds u.1 in
    let f = ltb-true _ _ v.0 in
    let g = ltb-true _ _ v.1 in
    let r = legs_take q at.Legs letters (front ++ l ∷ []) legs (omega arith) (omega arith) n (omega (arith, length_push front l)) s.1 in (
      r.0,
      r.1,
      r.2,
      go (numbers_good (codes "leg") (l.from ∷ (l.to ∷ (l.seconds ∷ []))) (omega arith) refl (omega arith, (omega arith, (omega arith, tt))))
          (ne_eqb (rank p) 8 (λ e. omega arith))
          (yes _ _ _ _ (in_range 3 4 (rank p) b t) (yes _ _ _ _ s.0 (yes _ _ _ _ (lt-ltb (length front) 1024 (omega arith)) refl)))
          (subst (λ (x : List Leg). Takes (drawn at.Legs q (table letters (front ++ l ∷ []))) (map leg legs) (drawn r.0 q (table letters x))) (append_assoc front (l ∷ []) legs) r.3),
    )

-- zones, one after another
zones_take : (q n d u : ℕ) (front zones : List Zone) → q ≤ 6 → n ≤ 256 → length front + length zones ≤ 8 → list_all (zone_fits q n) zones ≡ true
    → Takes (drawn at.Zones q (bore n d u front)) (map zone zones) (drawn at.Zones q (bore n d u (front ++ zones)))
zones_take q n d u front [] l m o e = subst (λ (x : List Zone). Takes (drawn at.Zones q (bore n d u front)) [] (drawn at.Zones q (bore n d u x))) (sym (append-nil front)) stay
zones_take q n d u front (z ∷ zones) l m o e =
    let s = and_parts (zone_fits q n z) (list_all (zone_fits q n) zones) e in
    let v = and_parts (leb z.first z.last && ltb z.last n) _ s.0 in
    let w = and_parts (leb z.first z.last) _ v.0 in
    let f = leb-true _ _ w.0 in
    let g = ltb-true _ _ w.1 in
    let h = ltb-true _ _ v.1 in
    go (numbers_good (codes "zone") (z.first ∷ (z.last ∷ (z.mark ∷ []))) (omega arith) refl (omega arith, (omega arith, (omega arith, tt)))) refl
    (yes _ _ _ _ s.0 (yes _ _ _ _ (lt-ltb (length front) 8 (omega arith)) refl))
    (subst (λ (x : List Zone). Takes (drawn at.Zones q (bore n d u (front ++ z ∷ []))) (map zone zones) (drawn at.Zones q (bore n d u x))) (append_assoc front (z ∷ []) zones)
    (zones_take q n d u (front ++ z ∷ []) zones l m (omega (arith, length_push front z)) s.1))

-- the lines of a chart lead to a place at which a task may stand
layout_takes : (q : ℕ) (c : Layout) → q ≤ 6 → layout_within q c ≡ true
    → (p : Place) × (3 ≤ rank p) × (rank p ≤ 5) × Takes (drawn at.Chart q unset) (layout_rows c) (drawn p q c)
layout_takes q unset l e = let z : ◌≡◌ {A = ℕ} 0 1 = cc in absurd (omega arith)
layout_takes q (table letters legs) l e =
    let a = and_parts _ _ e in
    let b = and_parts (among 1 256 (length letters)) _ a.0 in
    let n = range 1 256 (length letters) b.0 in
    let c = and_parts (leb (length legs) 1024) _ a.1 in
    let s = labels_take q 0 [] letters l (omega arith) (omega arith) b.1 in
    let f = leb-true _ _ c.0 in
    let t = legs_take q (at.Labels s.0) letters [] legs (omega arith) (omega arith) n.1 (omega arith) c.1 in (
      t.0,
      t.1,
      omega (arith, t.2),
      go (numbers_good (codes "stations") (length letters ∷ []) (omega arith) refl (omega arith, tt)) refl (yes _ _ _ _ b.0 refl) (takes_append s.1 t.3),
    )
layout_takes q (bore n d u zones) l e =
    let a = and_parts _ _ e in
    let b = and_parts (among 1 256 n) _ a.0 in
    let c = and_parts (among 1 1000 d) _ b.1 in
    let m = range 1 256 n b.0 in
    let f = range 1 1000 d c.0 in
    let g = range 1 1000 u c.1 in
    let z = and_parts (leb (length zones) 8) _ a.1 in
    let h = leb-true _ _ z.0 in (
      at.Zones,
      omega arith,
      omega arith,
      go (numbers_good (codes "bore") (n ∷ (d ∷ (u ∷ []))) (omega arith) refl (omega arith, (omega arith, (omega arith, tt)))) refl (yes _ _ _ _ a.0 refl)
          (zones_take q n d u [] zones l m.1 (omega arith) z.1),
    )

-- the lines of a job within its limits lead to that job
pub job_takes : (j : Contents) → within j ≡ true → Takes blank (rows_of j) (record { place = at.Done; job = j })
job_takes j e =
    let a = and_parts _ _ e in
    let b = and_parts _ _ a.0 in
    let c = and_parts (among 1 6 j.marks) _ b.0 in
    let d = and_parts (no_fault (task_fault j.marks j.task)) _ b.1 in
    let f = and_parts (ltb j.start (stations_in j.chart)) _ a.1 in
    let q = range 1 6 j.marks c.0 in
    let t = layout_takes j.marks j.chart q.1 c.1 in
    let g = task_good j.marks j.task d.0 d.1 in
    let s = ltb-true _ _ f.0 in
    let n = few j.marks j.chart c.1 in
    let h = range 1 1024 j.lookahead f.1 in
    go (numbers_good (codes "job") (1 ∷ []) (omega arith) refl (omega arith, tt)) refl refl
    (go (numbers_good (codes "marks") (j.marks ∷ []) (omega arith) refl (omega arith, tt)) refl (yes _ _ _ _ c.0 refl)
    (takes_append t.3
    (go g.1 (ne_eqb (rank t.0) 8 (λ e. omega (arith, t.2)))
    (ap (tasked (drawn t.0 j.marks j.chart)) g.0 ∙ yes _ _ _ _ (in_range 3 5 (rank t.0) t.1 t.2) (free (task_fault j.marks j.task) _ d.0))
    (go (numbers_good (codes "start") (j.start ∷ []) (omega arith) refl (omega arith, tt)) refl (yes _ _ _ _ f.0 refl)
    (go (numbers_good (codes "lookahead") (j.lookahead ∷ []) (omega arith) refl (omega arith, tt)) refl (yes _ _ _ _ f.1 refl) stay))))) where
      free : (o : Option TaskFault) (r : Result Draft Fault) → no_fault o ≡ true → limited o r ≡ r
      free None r e = refl
      free (Some f) r e = cc

      few : (q : ℕ) (c : Layout) → layout_within q c ≡ true → stations_in c ≤ 256
      few q unset e = omega arith
      few q (table letters legs) e = (range 1 256 (length letters) (and_parts _ _ (and_parts _ _ e).0).0).1
      few q (bore n d u zones) e = (range 1 256 n (and_parts _ _ (and_parts _ _ e).0).0).1
