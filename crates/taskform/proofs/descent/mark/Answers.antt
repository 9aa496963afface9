use Rattle.std.proofs.Common.{ℕ, ◌≤◌, [], ◌∷◌, length, Some, sym, ap, ◌∙◌, subst, arith}
use Rattle.ltlf.specs.declared.operator.Operator.TheVariants.{Mark}
use Rattle.taskform.proofs.Descending.{counted_small, mark_yes, mark_no, closing, closing_shorter, uncounted_shorter}
use Rattle.taskform.proofs.descent.mark.Goals as goal

pub push_mark-requires : goal.push_mark-requires
push_mark-requires c =
    subst (λ (x : ℕ). x ≤ 999999) (sym c.number-n.ensures.value) (counted_small c.in-Some.digits.now 0 (omega arith))

pub returns : goal.returns
returns c =
    let d = c.in-Some.digits.now in
    let e = c.in-Some.ensures in
    let u = c.number-n.ensures.rest in
    record {
      answer = λ h ps y os k s w held.
          closing h ps y os (Mark c.number-n.result.0 ∷ []) c.push_mark.new.self c.number-n.result.1.now c.closed.result c.closed.ensures
          (λ z f. let p = mark_yes h k ps y d z s (sym w ∙ e) (sym u ∙ f) in
          (p.0 ∙ ap (λ x. Some (Mark x ∷ [])) (sym c.number-n.ensures.value), p.1))
          (λ n. mark_no h k ps y d s (sym w ∙ e) (λ z f. n z (u ∙ f)))
          (c.push_mark.ensures os held);
      shorter = closing_shorter c.args.text.now c.number-n.result.1.now c.closed.result c.closed.ensures
          (omega (arith, ap length u, uncounted_shorter d 0, ap length e));
    }
