use Rattle.std.proofs.Common.{◌≡◌, ◌≤◌, List, [], ◌∷◌, map, length, sym, ap, ◌∙◌, subst, arith, rules, length-take-le}
use Rattle.std.specs.Iterator.Adapters.{rev_source}
use Rattle.std.specs.Slice.Iter.{iter_rest}
use Rattle.ltlf.specs.Bits.{bit, number}
use Rattle.ltlf.specs.declared.operator.Operator.{Operator}
use Rattle.ltlf.specs.Prefix.{meaning}
use Rattle.ltlf.proofs.Counts.{temporals_formula}
use Rattle.ltlf.proofs.Suffixes.{formula_known, formulas_known}
use Rattle.task.specs.Written.{written, formula_of}
use Rattle.task.proofs.Evaluated.{Seen, seen_none, ready, seen_more, seen_truth, seen_earlier}
use Rattle.task.proofs.formula.Formula.letter.Goals as goal

pub loop-operator-init : goal.loop-operator-init
loop-operator-init c =
    let me = c.args.self.now in
    let os = written me in
    let made = c.none-words.ensures in
    let few : length os ≤ 64 = omega (arith, length-take-le me.count me.operators (omega (arith, me.fits, me.room)), me.fits) in
    let P : List Operator → Type 0 = λ xs. Seen os xs me.temporals c.args.letter c.none-words.result in
    let e : iter_rest (rev_source c.into_iter-operator-iterator.result) ≡ os = search rules in
    (tt, tt, subst P (sym e) (seen_none os me.temporals c.args.letter c.none-words.result few made.held made.top made.told made.number))

pub apply-requires : goal.apply-requires
apply-requires c =
    let me = c.args.self.now in
    let asked = ready (written me) _ _ c.in-Some.operator.now (meaning (written me) ∷ []) me.temporals c.args.letter c.loop-operator.words c.in-Some.ensures.steps
    (formulas_known (written me) me.one) me.counted c.loop-operator.invariant.2 in
    record { operands = asked.0; room = asked.1; counted = asked.2 }

pub loop-operator-preserved : goal.loop-operator-preserved
loop-operator-preserved c =
    let me = c.args.self.now in (
      tt,
      tt,
      seen_more (written me) _ _ c.in-Some.operator.now (meaning (written me) ∷ []) me.temporals c.args.letter c.loop-operator.words c.in-Some.ensures.steps
          (formulas_known (written me) me.one) me.counted c.loop-operator.invariant.2
          c.apply.new.self c.apply.ensures.top c.apply.ensures.number c.apply.ensures.evaluates,
    )

pub returns : goal.returns
returns c =
    let me = c.args.self.now in
    let os = written me in
    let words = c.loop-operator.words in
    c.new.ensures (formula_of me) c.args.letter
    (temporals_formula os (meaning os) (formula_known os me.one) ∙ sym me.counted)
    (λ w h. ap (bit w) c.truth.ensures ∙ seen_truth os _ me.temporals c.args.letter words c.in-None.ensures.steps.0 me.one me.counted c.loop-operator.invariant.2 w h)
    (λ w h. ap (λ es. number (map (bit w) es)) c.earlier.ensures
    ∙ seen_earlier os _ me.temporals c.args.letter words c.in-None.ensures.steps.0 me.one me.counted c.loop-operator.invariant.2 w h)
