-- The questions that a table or a bore is asked before it is a chart, and the number of each refusal.
use Rattle.std.specs.Prelude.{ℕ, Bool, true, false, List, length, Some, None, Option, nat_le}
use Rattle.chart.specs.declared.fault.Fault.{Fault}
use Rattle.chart.specs.declared.fault.Fault.TheVariants.{OutOfRange, TooMany}
use Rattle.chart.specs.declared.leg.Leg.{Leg}
use Rattle.chart.specs.declared.leg.Zone.{Zone}
use Rattle.chart.specs.Limits.{among, legs_sound, spacing_sound, zones_sound}

-- the number that a refusal is reported by
abbrev pub fault_number : Fault → ℕ
fault_number OutOfRange = 6
fault_number TooMany = 9

-- one question: a no is the answer, a yes goes on to the questions after it
abbrev pub ask : Bool → Fault → Option Fault → Option Fault
ask true fault later = later
ask false fault later = Some fault

-- the first no of the questions that the letters and legs of a table are asked, or none
abbrev pub table_fault : List ℕ → List Leg → Option Fault
table_fault letters legs =
    ask (among 1 256 (length letters)) OutOfRange
    (ask (nat_le (length legs) 1024) TooMany
    (ask (legs_sound (length letters) legs) OutOfRange None))

-- the first no of the questions that a bore is asked, or none: its number of stations, its seconds down and up, its zones
abbrev pub bore_fault : ℕ → ℕ → ℕ → List Zone → Option Fault
bore_fault stations down up zones =
    ask (spacing_sound stations down up) OutOfRange
    (ask (nat_le (length zones) 8) TooMany
    (ask (zones_sound stations zones) OutOfRange None))
