-- One line taken: what is known of a job as far as it was read, and the lines that it was read from.
use Rattle.std.proofs.Common.{◌≡◌, ℕ, suc, ◌^◌, ◌≤◌, Bool, true, false, ◌&&◌, eqb, ltb, leb, List, [], ◌∷◌, ◌++◌, get_or, replicate, Some, None, Ok, Option, Result, sym, refl, ap, ◌∙◌, subst, append_assoc, arith, pow_pos}
use lib.ListN.{length-replicate}
use Rattle.std.proofs.lemmas.Bool.{false≢true, and_parts, and_from, leb-true, ltb-true, eqb-true, le-leb, lt-ltb}
use Rattle.chart.specs.Limits.{among}
use Rattle.form.specs.Forms.{Tree, Good, depth}
use Rattle.ltlf.specs.declared.operator.Operator.{Operator}
use Rattle.task.specs.Faults.{task_fault}
use Rattle.task.specs.declared.fault.Fault.{Fault as TaskFault}
use Rattle.taskform.specs.Spelling.{operators_in, task_tree}
use Rattle.taskform.proofs.Spelled.{task_forms}
use Rattle.job.specs.declared.fault.Fault.{Fault}
use Rattle.job.specs.declared.place.Place.{Place}
use Rattle.job.specs.declared.place.Place.TheVariants as at
use Rattle.job.specs.Contents.{Layout, unset, table, bore, Contents, stations_in, layout_within, no_fault, within}
use Rattle.job.specs.Rows.{Row, version, marks, stations, label, leg, boring, zone, task, start, lookahead, tree_of, label_rows, layout_rows, rows_of}
use Rattle.job.specs.Taking.{Draft, rank, floor_at, with_label, with_leg, with_zone, with_marks, with_chart, with_task, with_start, with_lookahead, ask, goes, limited, tasked, taken}
use Rattle.job.proofs.Letters.{zero_replicate, zero_rows}
use Rattle.job.proofs.Charted.{passes_replicate, Labelled, IsTable, IsBore, label_more, leg_more, zone_more}

-- the two halves of a job's limits before its start
abbrev charted : Contents → Bool
charted j = among 1 6 j.marks && layout_within j.marks j.chart

abbrev task_within : Contents → Bool
task_within j = no_fault (task_fault j.marks j.task) && leb (suc (depth (task_tree j.task).parts)) 15

-- what is known of a job at a place
abbrev pub SaneAt : Place → Contents → Type 0
SaneAt at.Version j = Unit {0}
SaneAt at.Marks j = Unit {0}
SaneAt at.Chart j = among 1 6 j.marks ≡ true
SaneAt (at.Labels k) j = (charted j ≡ true) × Labelled k j.chart
SaneAt at.Legs j = (charted j ≡ true) × IsTable j.chart
SaneAt at.Zones j = (charted j ≡ true) × IsBore j.chart
SaneAt at.Start j = (charted j && task_within j) ≡ true
SaneAt at.Lookahead j = ((charted j && task_within j) ≡ true) × (ltb j.start (stations_in j.chart) ≡ true)
SaneAt at.Done j = within j ≡ true

-- the lines up to a chart's
abbrev opened : Contents → List Row
opened j = version 1 ∷ (marks j.marks ∷ layout_rows j.chart)

-- the lines that a job at a place was read from
abbrev pub spelled_at : Place → Contents → List Row
spelled_at at.Version j = []
spelled_at at.Marks j = version 1 ∷ []
spelled_at at.Chart j = version 1 ∷ (marks j.marks ∷ [])
spelled_at (at.Labels k) j = opened j
spelled_at at.Legs j = opened j
spelled_at at.Zones j = opened j
spelled_at at.Start j = opened j ++ task (task_tree j.task) ∷ []
spelled_at at.Lookahead j = opened j ++ (task (task_tree j.task) ∷ (start j.start ∷ []))
spelled_at at.Done j = rows_of j

-- a place by its rank
abbrev places : ℕ → List Place
places k = at.Version ∷ (at.Marks ∷ (at.Chart ∷ (at.Labels k ∷ (at.Legs ∷ (at.Zones ∷ (at.Start ∷ (at.Lookahead ∷ (at.Done ∷ []))))))))

ranked : (p : Place) → p ≡ get_or (places (floor_at p)) (rank p) at.Done
ranked at.Version = refl
ranked at.Marks = refl
ranked at.Chart = refl
ranked (at.Labels k) = refl
ranked at.Legs = refl
ranked at.Zones = refl
ranked at.Start = refl
ranked at.Lookahead = refl
ranked at.Done = refl

-- a place of a rank that is known
pub at_rank : (p : Place) (n : ℕ) → eqb (rank p) n ≡ true → p ≡ get_or (places (floor_at p)) n at.Done
at_rank p n e = ranked p ∙ ap (λ x. get_or (places (floor_at p)) x at.Done) (eqb-true (rank p) n e)

-- where a task may stand, the chart is within its limits, and its lines were the last; where a leg may stand, it is a table
at_chart : (p : Place) (j : Contents) → SaneAt p j → among 3 5 (rank p) ≡ true
    → (charted j ≡ true) × (spelled_at p j ≡ opened j) × (leb (rank p) 4 ≡ true → IsTable j.chart)
at_chart at.Version j s e = absurd (false≢true e)
at_chart at.Marks j s e = absurd (false≢true e)
at_chart at.Chart j s e = absurd (false≢true e)
at_chart (at.Labels k) j s e = (s.0, refl, λ _. is j.chart s.1) where
  is : (c : Layout) → Labelled k c → IsTable c
  is unset l = l
  is (table letters legs) l = tt
  is (bore n d u zones) l = l
at_chart at.Legs j s e = (s.0, refl, λ _. s.1)
at_chart at.Zones j s e = (s.0, refl, λ f. absurd (false≢true f))
at_chart at.Start j s e = absurd (false≢true e)
at_chart at.Lookahead j s e = absurd (false≢true e)
at_chart at.Done j s e = absurd (false≢true e)

-- where a leg may stand, a task may
at_legs : (n : ℕ) → among 3 4 n ≡ true → (among 3 5 n ≡ true) × (leb n 4 ≡ true)
at_legs n e = let u = and_parts (leb 3 n) (leb n 4) e in (and_from _ _ u.0 (le-leb n 5 (omega (arith, leb-true n 4 u.1))), u.1)

-- the line was added to the lines of a job, of which as much is known again
pub record Goes (p : Place) (j : Contents) (r : Row) (m : Draft) : Type 0 where
  pub spelled : spelled_at m.place m.job ≡ spelled_at p j ++ r ∷ []
  pub sane : SaneAt m.place m.job

-- a question that was answered yes
yes : (b : Bool) (f : Fault) (r : Result Draft Fault) (m : Draft) → ask b f r ≡ Ok m → (b ≡ true) × (r ≡ Ok m)
yes true f r m e = (refl, e)
yes false f r m e = let z : ◌≡◌ {A = ℕ} 0 1 = cc in absurd (omega arith)

module _ (p : Place) (j : Contents) (sane : SaneAt p j) (m : Draft) where
  -- a line led to job k at place a; and did so from a place that is known
  arrives : (r : Row) (a : Place) (k : Contents) → goes a k ≡ Ok m → spelled_at a k ≡ spelled_at p j ++ r ∷ [] → SaneAt a k → Goes p j r m
  arrives r a k e f s = let n : record { place = a; job = k } ≡ m = cc in subst (Goes p j r) n (record { spelled = f; sane = s })

  moved : (r : Row) (q a : Place) (k : Contents) → goes a k ≡ Ok m → p ≡ q
      → (SaneAt q j → (spelled_at a k ≡ spelled_at q j ++ r ∷ []) × SaneAt a k) → Goes p j r m
  moved r q a k e i f =
      let g = f (subst (λ (x : Place). SaneAt x j) i sane) in
      arrives r a k e (g.0 ∙ ap (λ x. spelled_at x j ++ r ∷ []) (sym i)) g.1

  -- a task line, by the operators of its form
  task_goes : (f : Tree) → Good (tree_of (task f)) → (o : Option (List Operator)) → operators_in f.head f.parts ≡ o
      → tasked (record { place = p; job = j }) o ≡ Ok m → Goes p j (task f) m
  task_goes f g None k e = let z : ◌≡◌ {A = ℕ} 0 1 = cc in absurd (omega arith)
  task_goes f g (Some os) k e =
      let x = yes _ _ _ m e in
      let y = free (task_fault j.marks os) _ x.1 in
      let t = at_chart p j sane x.0 in
      let i : task_tree os ≡ f = (task_forms.writes f os k).0 in
      let d : suc (depth (task_tree os).parts) ≤ 15 = omega (arith, g.deep, ap (λ h. depth h.parts) i) in
      arrives (task f) at.Start (with_task os j) y.1
      (ap (λ h. opened j ++ task h ∷ []) i ∙ ap (λ h. h ++ task f ∷ []) (sym t.1))
      (and_from _ _ t.0 (and_from _ _ y.0 (le-leb _ _ d))) where
        free : (o : Option TaskFault) (r : Result Draft Fault) → limited o r ≡ Ok m → (no_fault o ≡ true) × (r ≡ Ok m)
        free None r e = (refl, e)
        free (Some f) r e = let z : ◌≡◌ {A = ℕ} 0 1 = cc in absurd (omega arith)

  -- each line that is taken goes on
  pub taken_goes : (r : Row) → Good (tree_of r) → taken (record { place = p; job = j }) r ≡ Ok m → Goes p j r m
  taken_goes (version n) g e =
      let a = yes _ _ _ m e in
      let b = yes _ _ _ m a.1 in
      moved (version n) at.Version at.Marks j b.1 (at_rank p 0 a.0) (λ s. (ap (λ x. version x ∷ []) (sym (eqb-true n 1 b.0)), tt))
  taken_goes (marks n) g e =
      let a = yes _ _ _ m e in
      let b = yes _ _ _ m a.1 in
      moved (marks n) at.Marks at.Chart (with_marks n j) b.1 (at_rank p 1 a.0) (λ s. (refl, b.0))
  taken_goes (stations n) g e =
      let a = yes _ _ _ m e in
      let b = yes _ _ _ m a.1 in
      let z = zero_replicate n in
      moved (stations n) at.Chart (at.Labels 0) (with_chart (table (replicate n 0) []) j) b.1 (at_rank p 2 a.0)
      (λ s. (
        ap (λ x. version 1 ∷ (marks j.marks ∷ (stations x ∷ (label_rows 0 (replicate n 0) ++ [])))) (length-replicate n 0)
            ∙ ap (λ x. version 1 ∷ (marks j.marks ∷ (stations n ∷ (x ++ [])))) (zero_rows 0 (replicate n 0) z),
        (
          and_from _ _ s
              (and_from _ _
              (and_from _ _ (ap (among 1 256) (length-replicate n 0) ∙ b.0)
              (passes_replicate (λ a. ltb a (2 ^ j.marks)) n 0 (lt-ltb 0 (2 ^ j.marks) (pow_pos j.marks))))
              refl),
          (refl, z),
        ),
      ))
  taken_goes (label s a) g e =
      let x = yes _ _ _ m e in
      let y = yes _ _ _ m x.1 in
      let u = and_parts (leb (floor_at p) s && ltb s (stations_in j.chart)) _ y.0 in
      let v = and_parts (leb (floor_at p) s) _ u.0 in
      let w = and_parts (leb 1 a) _ u.1 in
      moved (label s a) (at.Labels (floor_at p)) (at.Labels (suc s)) (with_chart (with_label s a j.chart) j) y.1 (at_rank p 3 x.0)
      (λ t.
      let c = and_parts (among 1 6 j.marks) _ t.0 in
      let n = label_more j.marks (floor_at p) s a j.chart (leb-true _ _ v.0) (ltb-true _ _ v.1) (leb-true _ _ w.0)
      (omega (arith, leb-true _ _ w.1, pow_pos j.marks)) c.1 t.1 in
      (ap (λ x. version 1 ∷ (marks j.marks ∷ x)) n.0, (and_from _ _ c.0 n.1, n.2)))
  taken_goes (leg l) g e =
      let x = yes _ _ _ m e in
      let y = yes _ _ _ m x.1 in
      let z = yes _ _ _ m y.1 in
      let u = at_legs (rank p) x.0 in
      let t = at_chart p j sane u.0 in
      let c = and_parts (among 1 6 j.marks) _ t.0 in
      let n = leg_more j.marks l j.chart y.0 (ltb-true _ _ z.0) c.1 (t.2 u.1) in
      arrives (leg l) at.Legs (with_chart (with_leg l j.chart) j) z.1
      (ap (λ x. version 1 ∷ (marks j.marks ∷ x)) n.0 ∙ ap (λ x. x ++ leg l ∷ []) (sym t.1)) (and_from _ _ c.0 n.1, n.2)
  taken_goes (boring n d u) g e =
      let x = yes _ _ _ m e in
      let y = yes _ _ _ m x.1 in
      moved (boring n d u) at.Chart at.Zones (with_chart (bore n d u []) j) y.1 (at_rank p 2 x.0)
      (λ s. (refl, (and_from _ _ s (and_from _ _ y.0 refl), tt)))
  taken_goes (zone z) g e =
      let x = yes _ _ _ m e in
      let y = yes _ _ _ m x.1 in
      let w = yes _ _ _ m y.1 in
      moved (zone z) at.Zones at.Zones (with_chart (with_zone z j.chart) j) w.1 (at_rank p 5 x.0)
      (λ t.
      let c = and_parts (among 1 6 j.marks) _ t.0 in
      let n = zone_more j.marks z j.chart y.0 (ltb-true _ _ w.0) c.1 t.1 in
      (ap (λ x. version 1 ∷ (marks j.marks ∷ x)) n.0, (and_from _ _ c.0 n.1, n.2)))
  taken_goes (task f) g e = task_goes f g (operators_in f.head f.parts) refl e
  taken_goes (start n) g e =
      let x = yes _ _ _ m e in
      let y = yes _ _ _ m x.1 in
      moved (start n) at.Start at.Lookahead (with_start n j) y.1 (at_rank p 6 x.0)
      (λ s. (sym (append_assoc (opened j) (task (task_tree j.task) ∷ []) (start n ∷ [])), (s, y.0)))
  taken_goes (lookahead n) g e =
      let x = yes _ _ _ m e in
      let y = yes _ _ _ m x.1 in
      moved (lookahead n) at.Lookahead at.Done (with_lookahead n j) y.1 (at_rank p 7 x.0)
      (λ s. (
        sym (append_assoc (opened j) (task (task_tree j.task) ∷ (start j.start ∷ [])) (lookahead n ∷ [])),
        and_from _ _ s.0 (and_from _ _ s.1 y.0),
      ))
