use Rattle.std.proofs.Common.{◌≡◌, ℕ, true, false, Result, sym, ap, ◌∙◌, subst, arith}
use Rattle.std.proofs.lemmas.Result.{err_from_is_err_and}
use Rattle.chart.specs.Limits.{among}
use Rattle.task.specs.declared.compiled.Task.{Task}
use Rattle.taskform.specs.Compiling.{Compiled}
use Rattle.taskform.specs.declared.fault.Fault.{Fault}
use Rattle.job.specs.Compiling.{is_task}
use Rattle.job.specs.Records.{draft_of}
use Rattle.job.specs.Taking.{rank}
use Rattle.job.proofs.Tasked.{task_misplaced, task_refused, task_taken}
use Rattle.job.proofs.draft.Draft.task_line.Goals.{else-is_task-via-then-is_task+else-not-takes_task, else-is_task-via-else-is_task}
use Rattle.job.proofs.draft.Draft.task_line.Goals as goal

pub returns-then-not-takes_task : goal.returns-then-not-takes_task
returns-then-not-takes_task c =
    λ f g e. task_misplaced (draft_of c.args.self.now) c.args.text.now f g e c.compile-made.result c.compile-made.ensures.answer
    (sym c.if-is_task.ensures) (sym c.if-not-takes_task.ensures)

pub returns-in_err-made : goal.returns-in_err-made
returns-in_err-made c =
    let e = err_from_is_err_and c.from_residual.result c.from_residual.ensures.1 in
    let w = c.in_err-made.was in
    let placed : is_task c.compile-made.result ≡ true → among 3 5 (rank c.args.self.now.place) ≡ true =
    λ i. elim c.else-is_task.branch [
      | else-is_task-via-then-is_task+else-not-takes_task v ↦ sym v.takes_task.ensures ∙ v.if-not-takes_task.false
      | else-is_task-via-else-is_task v ↦ (let z : true ≡ false = sym i ∙ (sym c.is_task.ensures ∙ v.if-is_task.false) in let y : ◌≡◌ {A = ℕ} 0 1 = cc in absurd (omega arith))
    ] in
    λ f g s. rw (e.1, e.2) (task_refused (draft_of c.args.self.now) c.args.text.now f g s c.in_err-made.field-0.0
    (subst (λ (r : Result Task Fault). Compiled c.args.self.now.marks c.args.text.now r) w c.compile-made.ensures.answer)
    (λ i. placed (ap is_task w ∙ i)))

pub returns : goal.returns
returns c =
    let w = c.in_ok-made.was in
    let placed : among 3 5 (rank c.args.self.now.place) ≡ true =
    elim c.else-is_task.branch [
      | else-is_task-via-then-is_task+else-not-takes_task v ↦ sym v.takes_task.ensures ∙ v.if-not-takes_task.false
      | else-is_task-via-else-is_task v ↦ (let z : true ≡ false = sym (ap is_task w) ∙ (sym c.is_task.ensures ∙ v.if-is_task.false) in let y : ◌≡◌ {A = ℕ} 0 1 = cc in absurd (omega arith))
    ] in
    λ f g s. task_taken (draft_of c.args.self.now) c.args.text.now f g s c.in_ok-made.field-0
    (subst (λ (r : Result Task Fault). Compiled c.args.self.now.marks c.args.text.now r) w c.compile-made.ensures.answer) placed
