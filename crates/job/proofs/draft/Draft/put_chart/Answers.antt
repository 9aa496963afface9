use Rattle.std.proofs.Common.{rules, ◌≡◌, length, ℕ, List, Option, map, Some, vec_items, ap, sym, ◌∙◌}
use Rattle.std.specs.List.{flat_map}
use Rattle.form.proofs.Put.{wrote_then, wrote_as}
use Rattle.job.specs.declared.draft.Draft.{Draft}
use Rattle.job.specs.declared.place.Kind.{Kind}
use Rattle.job.specs.Holding.{layout}
use Rattle.job.specs.Rows.{leg, zone, stations, row_bytes, layout_rows}
use Rattle.job.proofs.Lines.{table_lines}
use Rattle.job.proofs.draft.Draft.put_chart.Goals as goal

-- the lines of a draft's chart, were it of this kind
abbrev lines : Draft → Option Kind → List ℕ
lines d kind = flat_map row_bytes (layout_rows (layout kind (vec_items d.letters) (vec_items d.legs) (vec_items d.zones)))

pub returns-in-Table : goal.returns-in-Table
returns-in-Table c =
    let d = c.args.self.now in
    let long : c.len.result ≡ length (vec_items d.letters) = search rules in
    let a = wrote_as (ap (λ n. row_bytes (stations n)) long) c.put_line.ensures in
    let e = wrote_as (ap (λ x. flat_map row_bytes (map leg x)) c.deref.ensures.value) c.put_each.ensures in
    wrote_as (table_lines (vec_items d.letters) (vec_items d.legs) ∙ ap (lines d) (ap Some (sym c.in-Table.is) ∙ sym c.in-Some.is)) (wrote_then (wrote_then a c.put_labels.ensures) e)

pub returns-in-Bore : goal.returns-in-Bore
returns-in-Bore c =
    let d = c.args.self.now in
    let e = wrote_as (ap (λ x. flat_map row_bytes (map zone x)) c.deref-in-Bore.ensures.value) c.put_each-in-Bore.ensures in
    wrote_as (ap (lines d) (ap Some (sym c.in-Bore.is) ∙ sym c.in-Some.is)) (wrote_then c.put_line-in-Bore.ensures e)
