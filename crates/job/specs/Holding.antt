-- What the job record holds.
use Rattle.std.specs.Prelude.{ℕ, Bool, true, cond, ◌&&◌, List, [], length, vec_items, Some, None, Option, nat_le}
use Rattle.chart.specs.declared.leg.Leg.{Leg}
use Rattle.chart.specs.declared.leg.Zone.{Zone}
use Rattle.ltlf.specs.declared.operator.Operator.{Operator}
use Rattle.task.specs.Compiled.{operators_of}
use Rattle.task.specs.declared.compiled.Task.{Task}
use Rattle.job.specs.declared.place.Kind.{Kind}
use Rattle.job.specs.declared.place.Kind.TheVariants as kind
use Rattle.job.specs.declared.draft.Draft.{Draft}
use Rattle.job.specs.Contents.{Layout, unset, table, bore, Contents, within}
use Rattle.job.specs.Rows.{writing}

-- the chart of a kind, if there is one, over the letters, legs and zones of their rooms
abbrev pub layout : Option Kind → List ℕ → List Leg → List Zone → Layout
layout None letters legs zones = unset
layout (Some kind.Table) letters legs zones = table letters legs
layout (Some (kind.Bore s)) letters legs zones = bore s.stations s.down s.up zones

-- the operators of the task, if there is one
abbrev pub operators_held : Option Task → List Operator
operators_held None = []
operators_held (Some t) = operators_of t

-- the job that a draft is
abbrev pub contents : Draft → Contents
contents d = record {
  marks = d.marks;
  chart = layout d.kind (vec_items d.letters) (vec_items d.legs) (vec_items d.zones);
  task = operators_held d.task;
  start = d.start;
  lookahead = d.lookahead;
}

-- a job that is held is within the limits, and so short that it can be read
abbrev pub right_if : Bool → Contents → Bool
right_if held j = cond held (within j && nat_le (length (writing j)) 65536) true
