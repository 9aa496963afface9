use Rattle.std.proofs.Common.{◌+◌, ◌*◌, true, false, [], ◌∷◌, ap, sym, ◌∙◌, arith}
use Rattle.ltlf.proofs.Counts.{end_bit, end_temporal}
use Rattle.task.specs.Written.{written}
use Rattle.task.proofs.Evaluated.{ends_more, ends_all}
use Rattle.task.proofs.formula.Formula.ending.Goals as goal

pub loop-operator-preserved-in-Weak : goal.loop-operator-preserved-in-Weak
loop-operator-preserved-in-Weak c =
    let me = c.args.self.now in
    let ends = c.loop-operator.invariant.2 in (
      tt,
      tt,
      ends_more (written me) _ _ c.in-Some.operator.now c.loop-operator.end c.in-Some.ensures.steps (omega (arith, me.counted, me.shallow)) ends
          (true ∷ []) (ap end_bit c.in-Weak.is) (2 * c.loop-operator.end + 1) (omega (arith, ends.is)),
    )

pub loop-operator-preserved-then-is_temporal : goal.loop-operator-preserved-then-is_temporal
loop-operator-preserved-then-is_temporal c =
    let me = c.args.self.now in
    let ends = c.loop-operator.invariant.2 in
    let o = c.in-Some.operator.now in (
      tt,
      tt,
      ends_more (written me) _ _ o c.loop-operator.end c.in-Some.ensures.steps (omega (arith, me.counted, me.shallow)) ends
          (false ∷ []) (end_temporal o c.in_default.not-Weak (sym c.is_temporal.ensures ∙ c.if-is_temporal.true)) (2 * c.loop-operator.end) (omega (arith, ends.is)),
    )

pub returns-clause-value : goal.returns-clause-value
returns-clause-value c =
    let me = c.args.self.now in
    ends_all (written me) _ c.loop-operator.end c.in-None.ensures.steps.0 me.one c.loop-operator.invariant.2
