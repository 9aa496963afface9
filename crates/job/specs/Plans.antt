-- The chart that a job means.
use Rattle.std.specs.Prelude.{Bool, cond, [], ◌∷◌, None, Option}
use Rattle.chart.specs.Bores.{bore_plan}
use Rattle.chart.specs.Chart.{Plan}
use Rattle.chart.specs.Faults.{table_fault, bore_fault}
use Rattle.chart.specs.declared.fault.Fault.{Fault}
use Rattle.job.specs.Contents.{Layout, unset, table, bore, Contents}

-- one station, whose letter is 0, and no legs
abbrev pub single : Plan
single = record { letters = 0 ∷ []; legs = [] }

-- a table means its letters and legs as they stand, a bore its row of stations
abbrev pub layout_plan : Layout → Plan
layout_plan unset = single
layout_plan (table letters legs) = record { letters = letters; legs = legs }
layout_plan (bore n d u zones) = bore_plan n d u zones

-- the first no of the questions that the chart of a table or a bore is asked, or none
abbrev pub layout_fault : Layout → Option Fault
layout_fault unset = None
layout_fault (table letters legs) = table_fault letters legs
layout_fault (bore n d u zones) = bore_fault n d u zones

abbrev pub plan_of : Contents → Plan
plan_of j = layout_plan j.chart

-- the chart of a record: its job's, or a single station where no job is held
abbrev pub plan_if : Bool → Contents → Plan
plan_if held j = cond held (plan_of j) single
