use Rattle.std.specs.Option.{option_and_then}
use Rattle.std.proofs.Common.{rules, ◌≡◌, ◌+◌, ◌<◌, false, length, get_or, take, drop, fold, Some, None, sym, ap, ◌∙◌, arith}
use Rattle.std.proofs.lemmas.List.Sums.{fold_more}
use Rattle.std.proofs.lemmas.List.{at_drop_more}
use Rattle.std.proofs.lemmas.Bool.{cond-true}
use Rattle.form.specs.Reading.{step, start}
use Rattle.form.specs.Scanning.{viewed, moved}
use Rattle.form.specs.Viewing.{plain, printed}
use Rattle.form.proofs.Scanned.{step_viewed, wrong_is, wrong_told}
use Rattle.form.proofs.scan.check.Goals as goal

pub loop-b-preserved : goal.loop-b-preserved
loop-b-preserved c =
    let t = c.args.text.now in
    let i = c.loop-b.b-index in
    let b = get_or t i 0 in
    let h : i < length t = omega arith in
    let went : Some c.in-Some.next ≡ c.next.result = search rules in (
      went
          ∙ (c.next.ensures
          ∙ (ap (option_and_then (λ s. moved s b)) c.loop-b.invariant.0
          ∙ (sym (step_viewed (fold step start (take i t)) b)
          ∙ ap viewed (sym (fold_more step start t i 0 h))))),
      c.loop-b.invariant.1
          ∙ (at_drop_more plain t i 0 h
          ∙ cond-true (printed b) (plain (drop (i + 1) t)) false (sym c.is_printed.ensures ∙ c.if-not-is_printed.false)),
    )

pub returns-in_default : goal.returns-in_default
returns-in_default c =
    let t = c.args.text.now in
    let i = c.loop-b.b-index in
    let b = get_or t i 0 in
    let h : i < length t = omega arith in
    let none : c.next.result ≡ None = search rules in
    wrong_told t c.refusal.result
    (wrong_is t (i + 1)
    (ap viewed (fold_more step start t i 0 h)
    ∙ (step_viewed (fold step start (take i t)) b
    ∙ (sym (ap (option_and_then (λ s. moved s b)) c.loop-b.invariant.0)
    ∙ (sym c.next.ensures ∙ none)))))
    c.refusal.ensures
