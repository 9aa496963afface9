use Rattle.std.proofs.Common.{take, vec_items}
use Rattle.std.specs.List.{flat_map}
use Rattle.form.specs.Putting.{Wrote}
use Rattle.job.specs.Rows.{row_bytes, label_rows}
use Rattle.job.proofs.draft.Draft.put_labels.Given as goal

abbrev pub invariant-loop-station : goal.invariant-loop-station
invariant-loop-station l = Wrote (flat_map row_bytes (label_rows 0 (take l.station (vec_items l.self.letters)))) l.initial.writer l.writer
