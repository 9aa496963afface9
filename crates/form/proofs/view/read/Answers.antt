use Rattle.std.proofs.Common.{sym, ◌∙◌}
use Rattle.std.proofs.lemmas.Result.{err_from_is_err_and}
use Rattle.form.proofs.Checked.{checked_ok, checked_err}
use Rattle.form.proofs.Plain.{good_plain}
use Rattle.form.proofs.Right.{reading_right}
use Rattle.form.proofs.Viewed.{taken_from, opens}
use Rattle.form.proofs.view.read.Goals as goal

pub returns-in_err-check : goal.returns-in_err-check
returns-in_err-check c =
    let e = err_from_is_err_and c.from_residual.result c.from_residual.ensures.1 in
    rw (e.1, e.2) (record {
      answer = checked_err c.args.text.now c.in_err-check.field-0.0 (sym c.in_err-check.ensures);
      theorems = (reading_right, good_plain);
    })

pub returns-in_default : goal.returns-in_default
returns-in_default c =
    let t = c.args.text.now in
    absurd (opens t (checked_ok t _ (sym c.in_ok-check.ensures)).1 c.in_default.ensures)

pub returns : goal.returns
returns c =
    let t = c.args.text.now in
    let ok = checked_ok t _ (sym c.in_ok-check.ensures) in
    let k = taken_from t c.in-Some.inside.now ok.1 c.in-Some.ensures in
    record {
      answer = (ok.0, k.tree, k.reads, c.word.ensures.front ∙ k.head, c.parts_of.ensures k.tree.parts k.good.sound (c.word.ensures.rest ∙ k.rest));
      theorems = (reading_right, good_plain);
    }
