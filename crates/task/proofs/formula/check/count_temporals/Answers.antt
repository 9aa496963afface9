use Rattle.std.proofs.Common.{◌≡◌, ◌^◌, cond, refl, sym, ◌∙◌, arith, rules}
use Rattle.std.specs.List.{count_by}
use Rattle.std.proofs.lemmas.Iterator.{YieldsList-from_slice}
use Rattle.std.proofs.lemmas.Iterator.Adapters.{fits_from_length, at_most_from_yields_List}
use Rattle.std.proofs.lemmas.List.Recursion.{is_sum_by}
use Rattle.ltlf.specs.Operators.{is_temporal}
use Rattle.ltlf.specs.Prefix.{temporals}
use Rattle.task.proofs.formula.check.count_temporals.Goals as goal

pub sum-requires-clause-fits : goal.sum-requires-clause-fits
sum-requires-clause-fits c =
    let os = c.args.operators.now in
    fits_from_length _ _ 18446744073709551615 (2 ^ 64) (at_most_from_yields_List (YieldsList-from_slice os cc) (omega arith)) c.map.ensures.closure (omega arith)
    (λ x r q k. search rules)

pub returns : goal.returns
returns c =
    let os = c.args.operators.now in
    let is : c.sum.result ≡ count_by is_temporal os = search rules in
    is ∙ sym (is_sum_by temporals (λ o. cond (is_temporal o) 1 0) refl (λ _ _. refl) os)
