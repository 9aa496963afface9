use Rattle.std.proofs.Common.{None, Some, sym, ap, ◌∙◌}
use Rattle.job.specs.Lining.{seen}
use Rattle.job.proofs.Seen.{lined, asks_line}
use Rattle.job.proofs.line.read_line.Goals as goal

pub returns-in_default-line_of : goal.returns-in_default-line_of
returns-in_default-line_of c =
    let f = c.in_ok-form.form in
    let k = c.in_ok-form.ensures.answer in
    asks_line c.args.bytes.now k.1 _ _ None k.0 k.2 k.3 k.4
    (sym c.in_default-line_of.is ∙ (c.line_of.ensures
    ∙ (ap (lined (Some c.in-Some.head)) (sym c.in-Some-values_in.is ∙ c.values_in.ensures)
    ∙ ap (λ d. lined d (seen f.parts)) (sym c.in-Some.is ∙ c.head_of.ensures))))

pub returns : goal.returns
returns c =
    let f = c.in_ok-form.form in
    let k = c.in_ok-form.ensures.answer in
    asks_line c.args.bytes.now k.1 _ _ (Some c.in-Some-line_of.line) k.0 k.2 k.3 k.4
    (sym c.in-Some-line_of.is ∙ (c.line_of.ensures
    ∙ (ap (lined (Some c.in-Some.head)) (sym c.in-Some-values_in.is ∙ c.values_in.ensures)
    ∙ ap (λ d. lined d (seen f.parts)) (sym c.in-Some.is ∙ c.head_of.ensures))))
