use Rattle.std.proofs.Common.{[], Some, sym, ap, ◌∙◌}
use Rattle.std.proofs.lemmas.Result.{err_from_is_err_and}
use Rattle.taskform.specs.Faults.{as_limit}
use Rattle.taskform.proofs.Compiled.{unformed, formed, inside_spelt, no_task, some_task, unopened, one_formula}
use Rattle.taskform.proofs.Spelled.{task_forms}
use Rattle.taskform.proofs.compiler.compile.Goals as goal

pub returns-in_err-check : goal.returns-in_err-check
returns-in_err-check c =
    let e = err_from_is_err_and c.from_residual.result c.from_residual.ensures.1 in
    record { answer = rw (e.1, e.2) (unformed c.args.marks c.args.text.now c.in_err-check.field-0.0 c.in_err-check.ensures); theorems = task_forms }

pub returns-in_default : goal.returns-in_default
returns-in_default c =
    let f = formed c.args.text.now c.in_ok-check.ensures in absurd (unopened _ f c.in_default.ensures)

pub returns-in_err-descend : goal.returns-in_err-descend
returns-in_err-descend c =
    let e = err_from_is_err_and c.from_residual-in_err-descend.result c.from_residual-in_err-descend.ensures.1 in
    let f = formed c.args.text.now c.in_ok-check.ensures in
    let b = c.in_err-descend.ensures.answer _ _ _ [] (inside_spelt _ f _ c.in-Some.ensures) c.none-gathered.ensures in
    record { answer = rw (e.1, e.2) (no_task _ f c.args.marks b.0 ∙ ap Some (sym b.1)); theorems = task_forms }

pub returns-in_err-limited : goal.returns-in_err-limited
returns-in_err-limited c =
    let e = err_from_is_err_and c.from_residual-in_err-limited.result c.from_residual-in_err-limited.ensures.1 in
    let f = formed c.args.text.now c.in_ok-check.ensures in
    let a = c.in_ok-descend.ensures.answer _ _ _ [] (inside_spelt _ f _ c.in-Some.ensures) c.none-gathered.ensures in
    let l = c.in_err-limited.ensures a.operators a.held (one_formula f.tree a.operators a.are) in
    record { answer = rw (e.1, e.2) (some_task _ f c.args.marks a.operators a.are ∙ ap as_limit l); theorems = task_forms }

pub returns : goal.returns
returns c =
    let f = formed c.args.text.now c.in_ok-check.ensures in
    let a = c.in_ok-descend.ensures.answer _ _ _ [] (inside_spelt _ f _ c.in-Some.ensures) c.none-gathered.ensures in
    let l = c.in_ok-limited.ensures a.operators a.held (one_formula f.tree a.operators a.are) in
    record {
      answer = record {
        faultless = some_task _ f c.args.marks a.operators a.are ∙ ap as_limit l.0;
        tree = f.tree;
        good = f.good;
        bytes = f.bytes;
        operators = a.are ∙ ap Some (sym l.1);
        marks = l.2;
      };
      theorems = task_forms;
    }
