-- What a job says: its marks, chart, task, start and lookahead, and which jobs there are.
use Rattle.std.specs.Prelude.{ℕ, suc, ◌^◌, Bool, true, false, ◌&&◌, ltb, List, [], length, Some, None, Option, nat_le, nat_lt}
use Rattle.std.specs.List.{list_all}
use Rattle.chart.specs.Limits.{among, legs_sound, spacing_sound}
use Rattle.chart.specs.declared.leg.Leg.{Leg}
use Rattle.chart.specs.declared.leg.Zone.{Zone}
use Rattle.form.specs.Forms.{depth}
use Rattle.ltlf.specs.declared.operator.Operator.{Operator}
use Rattle.task.specs.Faults.{task_fault}
use Rattle.task.specs.declared.fault.Fault.{Fault as TaskFault}
use Rattle.taskform.specs.Spelling.{task_tree}

-- a job's chart: none yet, the letters and legs of a table, or a bore's number of stations, its seconds down and up, and
-- its zones
pub data Layout : Type 0 where
  unset : Layout
  table : List ℕ → List Leg → Layout
  bore : ℕ → ℕ → ℕ → List Zone → Layout

-- a job; its task by the operators in prefix order
pub record Contents : Type 0 where
  pub marks : ℕ
  pub chart : Layout
  pub task : List Operator
  pub start : ℕ
  pub lookahead : ℕ

-- what an emptied record holds
abbrev pub empty : Contents
empty = record { marks = 0; chart = unset; task = []; start = 0; lookahead = 0 }

-- how many stations, legs and zones a chart has
abbrev pub stations_in : Layout → ℕ
stations_in unset = 0
stations_in (table letters legs) = length letters
stations_in (bore n d u zones) = n

abbrev pub legs_in : Layout → ℕ
legs_in unset = 0
legs_in (table letters legs) = length legs
legs_in (bore n d u zones) = 0

abbrev pub zones_in : Layout → ℕ
zones_in unset = 0
zones_in (table letters legs) = 0
zones_in (bore n d u zones) = length zones

-- whether a zone's first station is not past its last, its last is among n stations, and its mark is one of p
abbrev pub zone_fits : ℕ → ℕ → Zone → Bool
zone_fits p n z = (nat_le z.first z.last && nat_lt z.last n) && nat_lt z.mark p

-- whether a chart is within the limits of a job of p marks
abbrev pub layout_within : ℕ → Layout → Bool
layout_within p unset = false
layout_within p (table letters legs) =
    (among 1 256 (length letters) && list_all (λ a. ltb a (2 ^ p)) letters) && (nat_le (length legs) 1024 && legs_sound (length letters) legs)
layout_within p (bore n d u zones) =
    spacing_sound n d u && (nat_le (length zones) 8 && list_all (zone_fits p n) zones)

abbrev pub no_fault : Option TaskFault → Bool
no_fault None = true
no_fault (Some f) = false

-- whether a job is within all limits; its task form nests at most 15 deep, since its line is one bracket more
abbrev pub within : Contents → Bool
within j =
    ((among 1 6 j.marks && layout_within j.marks j.chart)
    && (no_fault (task_fault j.marks j.task) && nat_le (suc (depth (task_tree j.task).parts)) 15))
    && (nat_lt j.start (stations_in j.chart) && among 1 1024 j.lookahead)
