use Rattle.std.proofs.Common.{◌≡◌, ℕ, ◌+◌, ◌-◌, List, sym, subst, arith, rules}
use Rattle.std.specs.Iterator.Adapters.{rev_source}
use Rattle.std.specs.Slice.Iter.{iter_rest}
use Rattle.ltlf.specs.declared.operator.Operator.{Operator}
use Rattle.task.proofs.Counting.{Counted, counted_none, counted_more, counted_short}
use Rattle.task.proofs.formula.check.is_formula.Goals as goal

pub loop-operator-init : goal.loop-operator-init
loop-operator-init c =
    let os = c.args.operators.now in
    let P : List Operator → Type 0 = λ xs. Counted os xs 0 in
    let e : iter_rest (rev_source c.into_iter-operator-iterator.result) ≡ os = search rules in
    (tt, tt, subst P (sym e) (counted_none os))

pub returns-then-formulas-operands : goal.returns-then-formulas-operands
returns-then-formulas-operands c =
    sym (counted_short c.args.operators.now _ _ c.in-Some.operator.now c.loop-operator.formulas c.in-Some.ensures.steps c.loop-operator.invariant.2
    (omega (arith, c.if-formulas-operands.true, c.operands-operands.ensures)))

pub loop-operator-preserved : goal.loop-operator-preserved
loop-operator-preserved c =
    let n = c.loop-operator.formulas in
    let less = iter_rest (rev_source c.next.new.self) in
    let P : ℕ → Type 0 = λ k. Counted c.args.operators.now less (n - k + 1) in (
      tt,
      tt,
      subst P (sym c.operands-operands.ensures)
          (counted_more c.args.operators.now _ less c.in-Some.operator.now n c.in-Some.ensures.steps c.loop-operator.invariant.2
          (omega (arith, c.if-formulas-operands.false, c.operands-operands.ensures))),
    )
