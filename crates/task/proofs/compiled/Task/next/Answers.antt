use Rattle.std.proofs.Common.{ℕ, ◌<◌, ◌&&◌, ltb, [], length, get_or, Some, None, Option, sym, ap, ◌∙◌, arith}
use Rattle.std.proofs.lemmas.Bool.{cond-true, lt-ltb, and_from}
use Rattle.ltlf.specs.Numbering.{next_number}
use Rattle.ltlf.proofs.ByNumber.{next_known}
use Rattle.task.specs.Compiled.{task_formula, letters_of, states_of}
use Rattle.task.proofs.Acting.{letter_count}
use Rattle.task.proofs.Compiling.{states_count, states_few}
use Rattle.task.proofs.compiled.Task.next.Goals as goal

pub bounds-self-from-else-letter-letters : goal.bounds-self-from-else-letter-letters
bounds-self-from-else-letter-letters c =
    let f = c.args.self.now.formula in
    omega (arith, c.from-2.ensures, c.if-letter-letters.false, c.letters.ensures, (letter_count f.marks 64 f.few (omega (arith, f.few))).1)

pub returns : goal.returns
returns c =
    let me = c.args.self.now in
    let f = task_formula me in
    let n = letters_of me in
    let q = c.args.state in
    let a = c.args.letter in
    let l : q < length (states_of me) = omega (arith, c.if-state-states.false, c.states.ensures.count) in
    let h : a < n = omega (arith, c.if-letter-letters.false, c.letters.ensures) in
    let at =
    ap (λ p. get_or (get_or me.tables.next p []) c.from-2.result 0) c.from.ensures
    ∙ (ap (λ b. get_or (get_or me.tables.next q []) b 0) c.from-2.ensures ∙ me.tabulated.steps q a (omega (arith, l, states_count me)) h) in
    record {
      answer = ap {B = Option ℕ} (λ p. Some p) at
          ∙ sym (cond-true {A = Option ℕ} (ltb q (length (states_of me)) && ltb a n) (Some (next_number f n q a)) None
          (and_from (ltb q (length (states_of me))) (ltb a n) (lt-ltb q (length (states_of me)) l) (lt-ltb a n h)));
      within = omega (arith, at, next_known f n (states_few me) q a l h);
    }
