use Rattle.std.proofs.Common.{rules, refl, ◌&&◌, ◌∙◌}
use Rattle.std.specs.List.{list_all}
use borrow.Author.Tests.{tests}
use Rattle.std.proofs.lemmas.Iterator.{YieldsList-from_slice}
use Rattle.std.proofs.lemmas.Iterator.Search.{all_from_yields_List}
use Rattle.std.proofs.lemmas.List.Recursion.{same_from_clauses}
use Rattle.ltlf.specs.Prefix.{mark_below, marks_below}
use Rattle.task.proofs.formula.check.marks_below.Goals as goal

pub returns : goal.returns
returns c =
    let p = c.args.marks in
    let os = c.args.operators.now in
    all_from_yields_List (mark_below p) _ _ _ c.all.ensures.ran (YieldsList-from_slice os (cc)) (λ x b q k. search (rules, tests))
    ∙ same_from_clauses (list_all (mark_below p)) (marks_below p) (λ o r. mark_below p o && r) refl (λ _ _. refl) (λ _ _. refl) os
