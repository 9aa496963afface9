use Rattle.std.proofs.Common.{sym}
use Rattle.std.proofs.lemmas.List.{nil_from_length}
use Rattle.std.proofs.lemmas.Bool.{eqb-true}
use Rattle.job.proofs.Called.{calls_once, filled, no_line, no_form, no_call, a_call}
use Rattle.job.proofs.call.next_call.Goals as goal

pub returns-then-is_empty : goal.returns-then-is_empty
returns-then-is_empty c =
    record { answer = nil_from_length c.args.text.now (eqb-true _ 0 (sym c.if-is_empty.ensures)); theorem = calls_once }

pub returns-in_default : goal.returns-in_default
returns-in_default c =
    let t = c.args.text.now in
    record { answer = (filled t c.if-is_empty.ensures, λ d rest _ e. no_line t c.in_default.ensures d rest e); theorem = calls_once }

pub returns-in_default-read : goal.returns-in_default-read
returns-in_default-read c =
    let t = c.args.text.now in
    let l = c.in-Some.ensures in
    record {
      answer = (filled t c.if-is_empty.ensures, no_form t _ _ l.0 l.1 c.in_default-read.field-0 c.in_default-read.ensures.answer);
      theorem = calls_once;
    }

pub returns-in_default-call_of : goal.returns-in_default-call_of
returns-in_default-call_of c =
    let t = c.args.text.now in
    let l = c.in-Some.ensures in
    let f = c.in-Ok.ensures.answer in
    record {
      answer = (
        filled t c.if-is_empty.ensures,
        no_call t _ _ l.0 l.1 f.1 _ _ f.2 f.3 f.4 c.in_default-call_of.ensures,
      );
      theorem = calls_once;
    }

pub returns : goal.returns
returns c =
    let l = c.in-Some.ensures in
    let f = c.in-Ok.ensures.answer in
    record {
      answer = a_call c.args.text.now _ _ l.0 l.1 f.1 _ _ f.2 f.3 f.4 c.in-Some-call_of.call c.in-Some-call_of.ensures;
      theorem = calls_once;
    }
