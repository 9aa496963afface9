use Rattle.std.proofs.Common.{ℕ, ◌<◌, ltb, get_or, Some, None, Option, sym, ap, ◌∙◌, arith}
use Rattle.std.proofs.lemmas.Bool.{cond-true, lt-ltb}
use Rattle.ltlf.specs.Numbering.{first_number}
use Rattle.ltlf.proofs.ByNumber.{first_known}
use Rattle.task.specs.Compiled.{task_formula, letters_of}
use Rattle.task.proofs.Acting.{letter_count}
use Rattle.task.proofs.Compiling.{states_few}
use Rattle.task.proofs.compiled.Task.first.Goals as goal

pub bounds-self-from : goal.bounds-self-from
bounds-self-from c =
    let f = c.args.self.now.formula in
    omega (arith, c.from.ensures, c.if-letter-letters.false, c.letters.ensures, (letter_count f.marks 64 f.few (omega (arith, f.few))).1)

pub returns : goal.returns
returns c =
    let me = c.args.self.now in
    let f = task_formula me in
    let n = letters_of me in
    let a = c.args.letter in
    let h : a < n = omega (arith, c.if-letter-letters.false, c.letters.ensures) in
    let at = ap (λ k. get_or me.tables.first k 0) c.from.ensures ∙ me.tabulated.starts a h in
    record {
      answer = ap {B = Option ℕ} (λ q. Some q) at ∙ sym (cond-true {A = Option ℕ} (ltb a n) (Some (first_number f n a)) None (lt-ltb a n h));
      within = omega (arith, at, first_known f n (states_few me) a h);
    }
