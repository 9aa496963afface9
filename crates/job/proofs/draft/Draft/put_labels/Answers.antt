use Rattle.std.proofs.Common.{List, ℕ, ◌+◌, take, ap, sym, arith}
use Rattle.std.specs.List.{flat_map}
use Rattle.form.proofs.Put.{wrote_then, wrote_as}
use Rattle.job.specs.Rows.{row_bytes, label_rows}
use Rattle.job.proofs.Lines.{label_more, label_none}
use Rattle.job.proofs.draft.Draft.put_labels.Goals.{then-letter-ne0, else-letter-ne0}
use Rattle.job.proofs.draft.Draft.put_labels.Goals as goal

-- the label lines of the stations before one
abbrev lines : ℕ → List ℕ → List ℕ
lines s letters = flat_map row_bytes (label_rows 0 (take s letters))

pub loop-station-preserved : goal.loop-station-preserved
loop-station-preserved c =
    let letters = c.deref-letter-items.result.now in
    let s = c.loop-station.station in
    let so_far = wrote_as (ap (lines s) (sym c.deref-letter-items.ensures.value)) c.loop-station.invariant in
    wrote_as (ap (lines (s + 1)) c.deref-letter-items.ensures.value)
    (elim c.if-letter-ne0.branch [
      | then-letter-ne0 w ↦ rw w.writer-is (wrote_as (label_more letters s (omega arith) w.if-letter-ne0.true) (wrote_then so_far w.put_line.ensures))
      | else-letter-ne0 w ↦ rw w.writer-is (wrote_as (ap (flat_map row_bytes) (label_none letters s (omega arith) w.if-letter-ne0.false)) so_far)
    ])
