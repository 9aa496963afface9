use Rattle.std.proofs.Common.{◌∷◌, sym, ap, ◌∙◌, arith}
use Rattle.form.proofs.Put.{wrote_as, wrote_then}
use Rattle.taskform.specs.Spelling.{forms}
use Rattle.taskform.proofs.Written.{leaf_bytes, one_bytes, two_bytes}
use Rattle.taskform.proofs.writing.+put_first.Goals as goal

pub returns-then-operands-eq0 : goal.returns-then-operands-eq0
returns-then-operands-eq0 t c =
    let s = c.in-Some.ensures.cases in
    record {
      answer = λ f fs e.
          let b = leaf_bytes c.in-Some.operator.now c.operands-operands.result c.operands-operands.ensures (forms c.in-Some.rest.now) f fs (sym (ap forms s.0) ∙ e) c.if-operands-eq0.true in
          let p = wrote_then (wrote_then c.put_byte.ensures (wrote_as c.word_of.ensures c.put_bytes.ensures)) c.put_mark.ensures in
          (wrote_as b.0 (wrote_then p c.put_byte-then-operands-eq0.ensures), b.1);
      fewer = omega (arith, s.1);
    }

pub returns-then-operands-eq1 : goal.returns-then-operands-eq1
returns-then-operands-eq1 t c =
    let s = c.in-Some.ensures.cases in
    record {
      answer = λ f fs e.
          let b = one_bytes c.in-Some.operator.now c.operands-operands.result c.operands-operands.ensures (forms c.in-Some.rest.now) f fs (sym (ap forms s.0) ∙ e) c.if-operands-eq1.true in
          let a = c.put_first-rest.ensures.answer b.operand fs b.rest in
          let p = wrote_then (wrote_then c.put_byte.ensures (wrote_as c.word_of.ensures c.put_bytes.ensures)) c.put_mark.ensures in
          let q = wrote_then (wrote_then p c.put_byte-2.ensures) a.0 in
          (wrote_as b.bytes (wrote_then q c.put_byte-then-operands-eq1.ensures), a.1);
      fewer = omega (arith, s.1, c.put_first-rest.ensures.fewer);
    }

pub returns : goal.returns
returns t c =
    let s = c.in-Some.ensures.cases in
    record {
      answer = λ f fs e.
          let b = two_bytes c.in-Some.operator.now c.operands-operands.result c.operands-operands.ensures (forms c.in-Some.rest.now) f fs (sym (ap forms s.0) ∙ e) c.if-operands-eq0.false c.if-operands-eq1.false in
          let a = c.put_first-rest.ensures.answer b.left (b.right ∷ fs) b.rest in
          let d = c.put_first-rest-2.ensures.answer b.right fs a.1 in
          let p = wrote_then (wrote_then c.put_byte.ensures (wrote_as c.word_of.ensures c.put_bytes.ensures)) c.put_mark.ensures in
          let q = wrote_then (wrote_then p c.put_byte-2.ensures) a.0 in
          let r = wrote_then (wrote_then q c.put_byte-3.ensures) d.0 in
          (wrote_as b.bytes (wrote_then r c.put_byte-4.ensures), d.1);
      fewer = omega (arith, s.1, c.put_first-rest.ensures.fewer, c.put_first-rest-2.ensures.fewer);
    }
