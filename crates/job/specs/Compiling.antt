-- Whether the bytes of a task line are a task form at all.
use Rattle.std.specs.Prelude.{Bool, true, false, Ok, Err, Result}
use Rattle.task.specs.declared.compiled.Task.{Task}
use Rattle.taskform.specs.declared.fault.Fault.{Fault}
use Rattle.taskform.specs.declared.fault.Fault.TheVariants.{Form, NotATask, Limit}

abbrev pub is_task : Result Task Fault → Bool
is_task (Ok t) = true
is_task (Err (Form f)) = true
is_task (Err NotATask) = false
is_task (Err (Limit f)) = true
