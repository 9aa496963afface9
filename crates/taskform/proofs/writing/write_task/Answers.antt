use Rattle.std.proofs.Common.{[], ap}
use Rattle.form.specs.Forms.{bytes_of}
use Rattle.form.proofs.Put.{wrote_as}
use Rattle.taskform.specs.Spelling.{task_tree}
use Rattle.taskform.proofs.Spelled.{one_form}
use Rattle.taskform.proofs.writing.write_task.Goals as goal

pub returns : goal.returns
returns c =
    let o = c.operators.ensures in
    wrote_as (ap (λ os. bytes_of (task_tree os)) o.are) (c.put_first.ensures.answer _ [] (one_form _ _ o.formula)).0
