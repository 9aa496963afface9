-- The questions that bytes are asked before they are a task, and the number of each refusal.
use Rattle.std.specs.Prelude.{ℕ, cond, List, Some, None, Option}
use Rattle.form.specs.Forms.{Tree}
use Rattle.form.specs.Reading.{form_of}
use Rattle.form.specs.Faults.{fault_number as form_number}
use Rattle.form.specs.Viewing.{plain}
use Rattle.form.specs.declared.fault.Fault.TheVariants.{Byte, Shape}
use Rattle.ltlf.specs.declared.operator.Operator.{Operator}
use Rattle.task.specs.Faults.{task_fault, fault_number as task_number}
use Rattle.task.specs.declared.fault.Fault.{Fault as TaskFault}
use Rattle.taskform.specs.declared.fault.Fault.{Fault}
use Rattle.taskform.specs.declared.fault.Fault.TheVariants.{Form, NotATask, Limit}
use Rattle.taskform.specs.Spelling.{operators_in}

abbrev pub fault_number : Fault → ℕ
fault_number (Form f) = form_number f
fault_number NotATask = 4
fault_number (Limit f) = task_number f

abbrev pub as_limit : Option TaskFault → Option Fault
as_limit None = None
as_limit (Some f) = Some (Limit f)

-- the first no of the operators of a form, if it is a task form
abbrev pub operators_fault : ℕ → Option (List Operator) → Option Fault
operators_fault p None = Some NotATask
operators_fault p (Some os) = as_limit (task_fault p os)

-- the first no of a form, if there is one
abbrev pub tree_fault : ℕ → Option Tree → Option Fault
tree_fault p None = Some (Form Shape)
tree_fault p (Some f) = operators_fault p (operators_in f.head f.parts)

-- the first no of all the questions that p marks and the bytes are asked, or none
abbrev pub compile_fault : ℕ → List ℕ → Option Fault
compile_fault p t = cond (plain t) (tree_fault p (form_of t)) (Some (Form Byte))
