use Rattle.std.proofs.Common.{eqb, rules}
use borrow.Author.Tests.{tests}
use Rattle.std.proofs.lemmas.Iterator.{YieldsList-from_slice}
use Rattle.std.proofs.lemmas.Iterator.Search.{position_from_yields_List}
use Rattle.task.specs.Listed.{listed}
use Rattle.task.proofs.Places.{found_place}
use Rattle.task.proofs.numbered.Numbered.scan.Goals as goal

pub returns : goal.returns
returns c =
    let ss = listed c.args.self.now in
    found_place c.args.state ss _
    (position_from_yields_List (λ x. eqb x c.args.state) _ _ _ c.position.ensures.ran (YieldsList-from_slice ss (cc)) (λ x b q k. search (rules, tests)))
