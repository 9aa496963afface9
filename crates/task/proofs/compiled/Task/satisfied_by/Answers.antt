use Rattle.std.proofs.Common.{◌≡◌, ℕ, false, List, [], Decides, sym, refl, subst}
use Rattle.std.proofs.lemmas.List.{nil_from_length}
use Rattle.ltlf.specs.Ltlf.{Satisfies}
use Rattle.ltlf.specs.Numbering.{accepts_by_number}
use Rattle.ltlf.specs.Theorems.{LettersBelow}
use Rattle.ltlf.proofs.ByNumber.{accepts_by_number_right}
use Rattle.ltlf.proofs.Right.{accepts_satisfying}
use Rattle.task.specs.Compiled.{task_formula, letters_of}
use Rattle.task.proofs.Compiling.{states_few, after_more, letters_more, whole_answer, first_not_below, not_below}
use Rattle.task.proofs.compiled.Task.satisfied_by.Goals as goal

pub returns-in_default : goal.returns-in_default
returns-in_default c =
    let me = c.args.self.now in
    let f = task_formula me in
    let n = letters_of me in
    let P : List ℕ → Type 0 = λ xs. LettersBelow n xs × (false ≡ accepts_by_number f n xs) × Decides false (Satisfies xs f) in
    record {
      theorems = (accepts_satisfying, accepts_by_number_right);
      answer = subst P (sym (nil_from_length c.args.letters.now c.in_default.ensures.cases)) (tt, refl, accepts_by_number_right f n (states_few me) [] tt);
    }

pub loop-letter-preserved : goal.loop-letter-preserved
loop-letter-preserved c =
    let me = c.args.self.now in
    let xs = c.in-Some.rest.now in
    let i = c.loop-letter.letter-index in
    let inv = c.loop-letter.invariant in
    let p = c.in_ok-state-2.state in
    let answer = c.in_ok-state-2.ensures.answer in (
      after_more (task_formula me) (letters_of me) c.in_ok-state.state xs i c.loop-letter.state p c.loop-letter-test.true inv.0 answer,
      c.in_ok-state-2.ensures.within,
      letters_more (task_formula me) (letters_of me) c.in_ok-state.state xs i c.loop-letter.state p c.loop-letter-test.true inv.0 answer inv.2,
    )

pub returns-in_err-state : goal.returns-in_err-state
returns-in_err-state c =
    rw c.from_residual.ensures (record {
      theorems = (accepts_satisfying, accepts_by_number_right);
      answer = first_not_below (letters_of c.args.self.now) c.args.letters.now c.in-Some.rest.now c.in-Some.letter.now
          c.in-Some.ensures.cases.0 c.in_err-state.ensures.within;
    })

pub returns-in_err-state-2 : goal.returns-in_err-state-2
returns-in_err-state-2 c =
    rw c.from_residual-in_err-state-2.ensures (record {
      theorems = (accepts_satisfying, accepts_by_number_right);
      answer = not_below (letters_of c.args.self.now) c.args.letters.now c.in-Some.rest.now c.in-Some.letter.now c.loop-letter.letter-index
          c.in-Some.ensures.cases.0 c.loop-letter-test.true (c.in_err-state-2.ensures.within c.loop-letter.invariant.1);
    })

pub returns : goal.returns
returns c =
    let me = c.args.self.now in
    let inv = c.loop-letter.invariant in
    record {
      theorems = (accepts_satisfying, accepts_by_number_right);
      answer = whole_answer (task_formula me) (letters_of me) c.args.letters.now c.in-Some.rest.now c.in-Some.letter.now c.in_ok-state.state
          c.loop-letter.letter-index c.loop-letter.state c.accepts.result (states_few me) c.in-Some.ensures.cases.0
          c.in_ok-state.ensures.answer inv.0 c.loop-letter-test.false inv.1 inv.2 c.accepts.ensures;
    }
