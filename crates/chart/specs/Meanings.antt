-- What each chart of this crate means.
use Rattle.chart.specs.declared.table.Table.{Table}
use Rattle.chart.specs.declared.bore.Bore.{Bore}
use Rattle.chart.specs.declared.any.AnyChart.{AnyChart}
use Rattle.chart.specs.declared.any.AnyChart.TheVariants.{Table as OfTable, Bore as OfBore}
use Rattle.chart.specs.Chart.{Plan, Within}
use Rattle.chart.specs.Bores.{bore_plan}
use Rattle.chart.specs.Kept.{table_within, bore_within}

-- a table means its letters and its legs as they stand
abbrev pub table_meaning : Table → Plan
table_meaning t = record { letters = t.letters.now; legs = t.legs.now }

pub table_limits : (t : Table) → Within (table_meaning t)
table_limits t = table_within t.letters.now t.legs.now t.some t.few t.short t.sound

-- a bore means the row of its stations, the legs down and up between them, and the letters of its zones
abbrev pub bore_meaning : Bore → Plan
bore_meaning b = bore_plan b.spacing.stations b.spacing.down b.spacing.up b.zones.now

pub bore_limits : (b : Bore) → Within (bore_meaning b)
bore_limits b = bore_within b.spacing.stations b.spacing.down b.spacing.up b.zones.now b.some b.few b.paced

-- either means what it means alone
abbrev pub any_meaning : AnyChart → Plan
any_meaning (OfTable t) = table_meaning t
any_meaning (OfBore b) = bore_meaning b

pub any_limits : (c : AnyChart) → Within (any_meaning c)
any_limits (OfTable t) = table_limits t
any_limits (OfBore b) = bore_limits b
