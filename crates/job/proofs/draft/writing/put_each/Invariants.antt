use Rattle.std.proofs.Common.{map, take}
use Rattle.std.specs.List.{flat_map}
use Rattle.form.specs.Putting.{Wrote}
use Rattle.job.specs.Rows.{row_bytes}
use Rattle.job.proofs.draft.writing.put_each.Given as goal

abbrev pub invariant-loop-item : goal.invariant-loop-item
invariant-loop-item g l = Wrote (flat_map row_bytes (map g.T.HasLine.as_row (take l.item-index l.items))) l.initial.writer l.writer
