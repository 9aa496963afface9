use borrow.Author.Tests.{tests}
use Rattle.std.proofs.Common.{rules, sym, ◌∙◌}
use Rattle.std.proofs.lemmas.Iterator.{YieldsList-from_slice}
use Rattle.std.proofs.lemmas.Iterator.Search.{all_from_yields_List}
use Rattle.chart.specs.Limits.{leg_sound}
use Rattle.std.proofs.Common.{length}
use Rattle.chart.proofs.table.Table.new.Goals as goal

pub invariant_of-result-clause-sound : goal.invariant_of-result-clause-sound
invariant_of-result-clause-sound c =
    sym (all_from_yields_List (leg_sound (length c.args.letters.now)) _ _ _ c.all.ensures.ran (YieldsList-from_slice c.args.legs.now cc) (λ x b q k. search (rules, tests)))
    ∙ c.if-not-all.false
