use borrow.Author.Tests.{tests}
use Rattle.std.proofs.Common.{rules, sym, ◌∙◌}
use Rattle.std.proofs.lemmas.Iterator.{YieldsList-from_slice}
use Rattle.std.proofs.lemmas.Iterator.Search.{all_from_yields_List}
use Rattle.chart.specs.Limits.{zone_sound}
use Rattle.chart.proofs.bore.Bore.new.Goals as goal

pub invariant_of-result-clause-sound : goal.invariant_of-result-clause-sound
invariant_of-result-clause-sound c =
    sym (all_from_yields_List (zone_sound c.args.spacing.stations) _ _ _ c.all.ensures.ran (YieldsList-from_slice c.args.zones.now cc) (λ x b q k. search (rules, tests)))
    ∙ c.if-not-all.false
