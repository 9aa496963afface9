use Rattle.chart.proofs.any.answers.AnyChartChart.leaving.Goals as goal

pub returns-in-Table : goal.returns-in-Table
returns-in-Table c = rw c.in-Table.is c.leaving.ensures

pub returns-in-Bore : goal.returns-in-Bore
returns-in-Bore c = rw c.in-Bore.is c.leaving-in-Bore.ensures
