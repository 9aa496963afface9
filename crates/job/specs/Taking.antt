-- The questions of a line after its form's, and what the line makes of the job.
use Rattle.std.specs.Prelude.{ℕ, suc, ◌-◌, ◌^◌, Bool, cond, ◌&&◌, List, [], ◌∷◌, ◌++◌, replicate, Some, None, Ok, Err, Option, Result, ◌==◌, nat_le, nat_lt, slice_set}
use Rattle.chart.specs.Limits.{among, leg_sound, spacing_sound}
use Rattle.chart.specs.declared.leg.Leg.{Leg}
use Rattle.chart.specs.declared.leg.Zone.{Zone}
use Rattle.ltlf.specs.declared.operator.Operator.{Operator}
use Rattle.task.specs.Faults.{task_fault}
use Rattle.task.specs.declared.fault.Fault.{Fault as TaskFault}
use Rattle.taskform.specs.Spelling.{operators_in}
use Rattle.taskform.specs.declared.fault.Fault.TheVariants.{NotATask, Limit}
use Rattle.job.specs.declared.fault.Fault.{Fault}
use Rattle.job.specs.declared.fault.Fault.TheVariants as fault
use Rattle.job.specs.declared.place.Place.{Place}
use Rattle.job.specs.declared.place.Place.TheVariants as at
use Rattle.job.specs.Contents.{Layout, unset, table, bore, Contents, empty, stations_in, legs_in, zones_in, zone_fits}
use Rattle.job.specs.Rows.{Row, version, marks, stations, label, leg, boring, zone, task, start, lookahead}

-- a job as far as it was read, and which line may come next
pub record Draft : Type 0 where
  pub place : Place
  pub job : Contents

-- before the first line
abbrev pub blank : Draft
blank = record { place = at.Version; job = empty }

-- the places in their order
abbrev pub rank : Place → ℕ
rank at.Version = 0
rank at.Marks = 1
rank at.Chart = 2
rank (at.Labels s) = 3
rank at.Legs = 4
rank at.Zones = 5
rank at.Start = 6
rank at.Lookahead = 7
rank at.Done = 8

-- the least station that a label may have
abbrev pub floor_at : Place → ℕ
floor_at at.Version = 0
floor_at at.Marks = 0
floor_at at.Chart = 0
floor_at (at.Labels s) = s
floor_at at.Legs = 0
floor_at at.Zones = 0
floor_at at.Start = 0
floor_at at.Lookahead = 0
floor_at at.Done = 0

-- a chart with a label, a leg or a zone more
abbrev pub with_label : ℕ → ℕ → Layout → Layout
with_label s a unset = unset
with_label s a (table letters legs) = table (slice_set letters s a) legs
with_label s a (bore n d u zones) = bore n d u zones

abbrev pub with_leg : Leg → Layout → Layout
with_leg l unset = unset
with_leg l (table letters legs) = table letters (legs ++ l ∷ [])
with_leg l (bore n d u zones) = bore n d u zones

abbrev pub with_zone : Zone → Layout → Layout
with_zone z unset = unset
with_zone z (table letters legs) = table letters legs
with_zone z (bore n d u zones) = bore n d u (zones ++ z ∷ [])

-- a job with other marks, another chart, and so on
abbrev pub with_marks : ℕ → Contents → Contents
with_marks n j = record { marks = n; chart = j.chart; task = j.task; start = j.start; lookahead = j.lookahead }

abbrev pub with_chart : Layout → Contents → Contents
with_chart c j = record { marks = j.marks; chart = c; task = j.task; start = j.start; lookahead = j.lookahead }

abbrev pub with_task : List Operator → Contents → Contents
with_task os j = record { marks = j.marks; chart = j.chart; task = os; start = j.start; lookahead = j.lookahead }

abbrev pub with_start : ℕ → Contents → Contents
with_start n j = record { marks = j.marks; chart = j.chart; task = j.task; start = n; lookahead = j.lookahead }

abbrev pub with_lookahead : ℕ → Contents → Contents
with_lookahead n j = record { marks = j.marks; chart = j.chart; task = j.task; start = j.start; lookahead = n }

-- a question: go on, or the fault for no
abbrev pub ask : Bool → Fault → Result Draft Fault → Result Draft Fault
ask b f later = cond b later (Err f)

-- the line was accepted: the next place, and the job with it
abbrev pub goes : Place → Contents → Result Draft Fault
goes p j = Ok (record { place = p; job = j })

-- the limits of a task
abbrev pub limited : Option TaskFault → Result Draft Fault → Result Draft Fault
limited None later = later
limited (Some f) later = Err (fault.Task (Limit f))

-- a task line by its operators, if its form is a task form
abbrev pub tasked : Draft → Option (List Operator) → Result Draft Fault
tasked d None = Err (fault.Task NotATask)
tasked d (Some os) =
    ask (among 3 5 (rank d.place)) fault.OutOfPlace (limited (task_fault d.job.marks os) (goes at.Start (with_task os d.job)))

-- the line's questions in the order of their numbers: does it stand at its place, are its numbers in range, are there not
-- too many; for a task line: is its form a task form, its place, its marks, its operators, its temporal ones, its states
abbrev pub taken : Draft → Row → Result Draft Fault
taken d (version n) =
    ask (rank d.place == 0) fault.OutOfPlace (ask (n == 1) fault.OutOfRange (goes at.Marks d.job))
taken d (marks n) =
    ask (rank d.place == 1) fault.OutOfPlace (ask (among 1 6 n) fault.OutOfRange (goes at.Chart (with_marks n d.job)))
taken d (stations n) =
    ask (rank d.place == 2) fault.OutOfPlace
    (ask (among 1 256 n) fault.OutOfRange (goes (at.Labels 0) (with_chart (table (replicate n 0) []) d.job)))
taken d (label s a) =
    ask (rank d.place == 3) fault.OutOfPlace
    (ask ((nat_le (floor_at d.place) s && nat_lt s (stations_in d.job.chart)) && among 1 (2 ^ d.job.marks - 1) a) fault.OutOfRange
    (goes (at.Labels (suc s)) (with_chart (with_label s a d.job.chart) d.job)))
taken d (leg l) =
    ask (among 3 4 (rank d.place)) fault.OutOfPlace
    (ask (leg_sound (stations_in d.job.chart) l) fault.OutOfRange
    (ask (nat_lt (legs_in d.job.chart) 1024) fault.TooMany
    (goes at.Legs (with_chart (with_leg l d.job.chart) d.job))))
taken d (boring n dn up) =
    ask (rank d.place == 2) fault.OutOfPlace
    (ask (spacing_sound n dn up) fault.OutOfRange
    (goes at.Zones (with_chart (bore n dn up []) d.job)))
taken d (zone z) =
    ask (rank d.place == 5) fault.OutOfPlace
    (ask (zone_fits d.job.marks (stations_in d.job.chart) z) fault.OutOfRange
    (ask (nat_lt (zones_in d.job.chart) 8) fault.TooMany
    (goes at.Zones (with_chart (with_zone z d.job.chart) d.job))))
taken d (task f) = tasked d (operators_in f.head f.parts)
taken d (start n) =
    ask (rank d.place == 6) fault.OutOfPlace
    (ask (nat_lt n (stations_in d.job.chart)) fault.OutOfRange (goes at.Lookahead (with_start n d.job)))
taken d (lookahead n) =
    ask (rank d.place == 7) fault.OutOfPlace
    (ask (among 1 1024 n) fault.OutOfRange (goes at.Done (with_lookahead n d.job)))
