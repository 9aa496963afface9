use borrow.Author.Tests.{tests}
use Rattle.std.proofs.Common.{rules, arith}
use Rattle.std.proofs.lemmas.Iterator.{first_from_Range}
use Rattle.chart.specs.Meanings.{table_meaning}
use Rattle.chart.proofs.Scanning.{From, leaving_found}
use Rattle.chart.proofs.table.answers.TableChart.leaving.Goals as goal

pub returns : goal.returns
returns c =
    let plan = table_meaning c.args.self.now in
    leaving_found plan c.args.station c.args.least _ _ _ (omega arith) (omega arith)
    (first_from_Range _ _ _ _ (From plan c.args.station) (λ k. From plan c.args.station k → ⊥) c.find.ensures.ran (λ x q k. search (rules, tests)) (λ x q k. search (rules, tests)))
