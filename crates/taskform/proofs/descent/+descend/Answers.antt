use Rattle.std.proofs.Common.{[], ◌∷◌, ◌++◌, length, Some, sym, refl, ap, ◌∙◌, arith}
use Rattle.std.proofs.lemmas.Result.{MatchResult-weaker, err_from_is_err_and}
use Rattle.ltlf.specs.declared.operator.Operator.TheVariants.{True}
use Rattle.taskform.proofs.Descending.{opens, no_sort, truth_yes, truth_no, one_bare, one_none, one_yes, one_no, two_bare, two_none, two_single, two_second, two_yes, two_no, closing, closing_shorter, word_shorter, headed, sorted, held_as, held_both}
use Rattle.taskform.proofs.descent.+descend.Goals as goal

pub returns-in_default : goal.returns-in_default
returns-in_default t c =
    record {
      answer = λ h ps y os s held.
          let k = headed h ps y _ _ _ c.word.ensures.front c.word.ensures.rest s in
          (no_sort h ps (sorted h ps y _ _ _ k c.in_default.ensures), refl);
      shorter = tt;
    }

pub returns-in_default-opened : goal.returns-in_default-opened
returns-in_default-opened t c =
    record {
      answer = λ h ps y os s held.
          let k = headed h ps y _ _ _ c.word.ensures.front c.word.ensures.rest s in
          let e = sorted h ps y _ _ _ k (ap Some (sym c.in-Unary.is) ∙ c.in-Some.ensures) in
          (one_bare h _ e ps y (λ r f. c.in_default-opened.ensures r (k.rest ∙ f)), refl);
      shorter = tt;
    }

pub returns-in_err-descend-in-Unary : goal.returns-in_err-descend-in-Unary
returns-in_err-descend-in-Unary t c =
    let f = err_from_is_err_and c.from_residual.result c.from_residual.ensures.1 in
    record {
      answer = λ h ps y os s held.
          let k = headed h ps y _ _ _ c.word.ensures.front c.word.ensures.rest s in
          let e = sorted h ps y _ _ _ k (ap Some (sym c.in-Unary.is) ∙ c.in-Some.ensures) in
          let i = opens ps y _ k.sound (sym k.rest ∙ c.in-Some-opened.ensures) in
          let b = c.in_err-descend-in-Unary.ensures.answer _ _ _ _ i.spelt (c.push-in-Unary.ensures os held) in
          rw (f.1, f.2) (one_none h _ e ps y _ i b.0, b.1);
      shorter = rw f.1 tt;
    }

pub returns-in_default-opened-2 : goal.returns-in_default-opened-2
returns-in_default-opened-2 t c =
    record {
      answer = λ h ps y os s held.
          let k = headed h ps y _ _ _ c.word.ensures.front c.word.ensures.rest s in
          let e = sorted h ps y _ _ _ k (ap Some (sym c.in-Binary.is) ∙ c.in-Some.ensures) in
          (two_bare h _ e ps y (λ r f. c.in_default-opened-2.ensures r (k.rest ∙ f)), refl);
      shorter = tt;
    }

pub returns-in_err-descend-in-Binary : goal.returns-in_err-descend-in-Binary
returns-in_err-descend-in-Binary t c =
    let f = err_from_is_err_and c.from_residual-in_err-descend-in-Binary.result c.from_residual-in_err-descend-in-Binary.ensures.1 in
    record {
      answer = λ h ps y os s held.
          let k = headed h ps y _ _ _ c.word.ensures.front c.word.ensures.rest s in
          let e = sorted h ps y _ _ _ k (ap Some (sym c.in-Binary.is) ∙ c.in-Some.ensures) in
          let i = opens ps y _ k.sound (sym k.rest ∙ c.in-Some-opened-2.ensures) in
          let b = c.in_err-descend-in-Binary.ensures.answer _ _ _ _ i.spelt (c.push-in-Binary.ensures os held) in
          rw (f.1, f.2) (two_none h _ e ps y _ i b.0, b.1);
      shorter = rw f.1 tt;
    }

pub returns-in_default-opened-3 : goal.returns-in_default-opened-3
returns-in_default-opened-3 t c =
    record {
      answer = λ h ps y os s held.
          let k = headed h ps y _ _ _ c.word.ensures.front c.word.ensures.rest s in
          let e = sorted h ps y _ _ _ k (ap Some (sym c.in-Binary.is) ∙ c.in-Some.ensures) in
          let i = opens ps y _ k.sound (sym k.rest ∙ c.in-Some-opened-2.ensures) in
          let a = c.in_ok-descend-in-Binary.ensures.answer _ _ _ _ i.spelt (c.push-in-Binary.ensures os held) in
          (two_single h _ e ps y _ i (λ r f. c.in_default-opened-3.ensures r (a.left ∙ f)), refl);
      shorter = tt;
    }

pub returns-in_err-descend-in-Binary-2 : goal.returns-in_err-descend-in-Binary-2
returns-in_err-descend-in-Binary-2 t c =
    let f = err_from_is_err_and c.from_residual-in_err-descend-in-Binary-2.result c.from_residual-in_err-descend-in-Binary-2.ensures.1 in
    record {
      answer = λ h ps y os s held.
          let k = headed h ps y _ _ _ c.word.ensures.front c.word.ensures.rest s in
          let e = sorted h ps y _ _ _ k (ap Some (sym c.in-Binary.is) ∙ c.in-Some.ensures) in
          let i = opens ps y _ k.sound (sym k.rest ∙ c.in-Some-opened-2.ensures) in
          let a = c.in_ok-descend-in-Binary.ensures.answer _ _ _ _ i.spelt (c.push-in-Binary.ensures os held) in
          let j = opens i.rest y _ i.sound (sym a.left ∙ c.in-Some-opened-3.ensures) in
          let b = c.in_err-descend-in-Binary-2.ensures.answer _ _ _ _ j.spelt a.held in
          rw (f.1, f.2) (two_second h _ e ps y _ i _ j a.operators a.are b.0, b.1);
      shorter = rw f.1 tt;
    }

pub returns-in-Truth : goal.returns-in-Truth
returns-in-Truth t c =
    record {
      answer = λ h ps y os s held.
          let k = headed h ps y _ _ _ c.word.ensures.front c.word.ensures.rest s in
          let e = sorted h ps y _ _ _ k (ap Some (sym c.in-Truth.is) ∙ c.in-Some.ensures) in
          closing h ps y os (True ∷ []) _ c.word.result.1.now c.closed.result c.closed.ensures
          (λ z f. truth_yes h ps y z e (sym k.rest ∙ f)) (λ n. truth_no h ps y e (λ z f. n z (k.rest ∙ f))) (c.push.ensures os held);
      shorter = closing_shorter _ _ c.closed.result c.closed.ensures (omega (arith, ap length c.word.ensures.rest, word_shorter c.args.text.now));
    }

pub returns-in-Marked : goal.returns-in-Marked
returns-in-Marked t c =
    record {
      answer = λ h ps y os s held.
          let k = headed h ps y _ _ _ c.word.ensures.front c.word.ensures.rest s in
          c.mark.ensures.answer h ps y os (sorted h ps y _ _ _ k (ap Some (sym c.in-Marked.is) ∙ c.in-Some.ensures)) k.sound k.rest held;
      shorter = MatchResult-weaker c.mark.result c.mark.ensures.shorter
          (λ _ l. omega (arith, l, ap length c.word.ensures.rest, word_shorter c.args.text.now)) (λ _ _. tt);
    }

pub returns-in_ok-descend-in-Unary : goal.returns-in_ok-descend-in-Unary
returns-in_ok-descend-in-Unary t c =
    record {
      answer = λ h ps y os s held.
          let k = headed h ps y _ _ _ c.word.ensures.front c.word.ensures.rest s in
          let e = sorted h ps y _ _ _ k (ap Some (sym c.in-Unary.is) ∙ c.in-Some.ensures) in
          let i = opens ps y _ k.sound (sym k.rest ∙ c.in-Some-opened.ensures) in
          let a = c.in_ok-descend-in-Unary.ensures.answer _ _ _ _ i.spelt (c.push-in-Unary.ensures os held) in
          closing h ps y os (c.in-Unary.operator ∷ a.operators) _ c.in_ok-descend-in-Unary.field-0.now c.closed-in-Unary.result c.closed-in-Unary.ensures
          (λ z f. one_yes h _ e ps y _ i a.operators z a.are (sym a.left ∙ f)) (λ n. one_no h _ e ps y _ i (λ z f. n z (a.left ∙ f)))
          (held_as os a.operators c.in-Unary.operator _ a.held);
      shorter = closing_shorter _ _ c.closed-in-Unary.result c.closed-in-Unary.ensures
          (omega (arith, c.in_ok-descend-in-Unary.ensures.shorter, ap length c.in-Some-opened.ensures, ap length c.word.ensures.rest, word_shorter c.args.text.now));
    }

pub returns-in_ok-descend-in-Binary-2 : goal.returns-in_ok-descend-in-Binary-2
returns-in_ok-descend-in-Binary-2 t c =
    record {
      answer = λ h ps y os s held.
          let k = headed h ps y _ _ _ c.word.ensures.front c.word.ensures.rest s in
          let e = sorted h ps y _ _ _ k (ap Some (sym c.in-Binary.is) ∙ c.in-Some.ensures) in
          let i = opens ps y _ k.sound (sym k.rest ∙ c.in-Some-opened-2.ensures) in
          let a = c.in_ok-descend-in-Binary.ensures.answer _ _ _ _ i.spelt (c.push-in-Binary.ensures os held) in
          let j = opens i.rest y _ i.sound (sym a.left ∙ c.in-Some-opened-3.ensures) in
          let b = c.in_ok-descend-in-Binary-2.ensures.answer _ _ _ _ j.spelt a.held in
          closing h ps y os (c.in-Binary.operator ∷ (a.operators ++ b.operators)) _ c.in_ok-descend-in-Binary-2.field-0.now c.closed-in-Binary.result c.closed-in-Binary.ensures
          (λ z f. two_yes h _ e ps y _ i _ j a.operators b.operators z a.are b.are (sym b.left ∙ f))
          (λ n. two_no h _ e ps y _ i _ j (λ z f. n z (b.left ∙ f)))
          (held_both os a.operators b.operators c.in-Binary.operator _ b.held);
      shorter = closing_shorter _ _ c.closed-in-Binary.result c.closed-in-Binary.ensures
          (omega (
            arith,
            c.in_ok-descend-in-Binary-2.ensures.shorter,
            ap length c.in-Some-opened-3.ensures,
            c.in_ok-descend-in-Binary.ensures.shorter,
            ap length c.in-Some-opened-2.ensures,
            ap length c.word.ensures.rest,
            word_shorter c.args.text.now,
          ));
    }
