use Rattle.std.proofs.Common.{rules, sym, ◌∙◌}
use borrow.Author.Tests.{tests}
use Rattle.std.proofs.lemmas.Bool.{cond-true, cond-false}
use Rattle.std.proofs.lemmas.Iterator.{YieldsList-from_slice}
use Rattle.std.proofs.lemmas.Iterator.Search.{all_from_yields_List}
use Rattle.form.specs.declared.fault.Fault.TheVariants.{Byte, Shape}
use Rattle.form.specs.Viewing.{plain, printed}
use Rattle.form.proofs.Scanned.{plain_all}
use Rattle.form.proofs.scan.refusal.Goals as goal

pub returns-then-all : goal.returns-then-all
returns-then-all c =
    let t = c.args.text.now in
    let is = all_from_yields_List printed _ _ _ c.all.ensures.ran (YieldsList-from_slice t (cc)) (λ x b q k. search (rules, tests)) in
    sym (cond-true (plain t) Shape Byte (sym (plain_all t) ∙ (sym is ∙ c.if-all.true)))

pub returns-else-all : goal.returns-else-all
returns-else-all c =
    let t = c.args.text.now in
    let is = all_from_yields_List printed _ _ _ c.all.ensures.ran (YieldsList-from_slice t (cc)) (λ x b q k. search (rules, tests)) in
    sym (cond-false (plain t) Shape Byte (sym (plain_all t) ∙ (sym is ∙ c.if-all.false)))
