-- The number of each refusal of a job.
use Rattle.std.specs.Prelude.{ℕ}
use Rattle.form.specs.Faults.{fault_number as form_number}
use Rattle.taskform.specs.Faults.{fault_number as task_number}
use Rattle.job.specs.declared.fault.Fault.{Fault}
use Rattle.job.specs.declared.fault.Fault.TheVariants.{TooLong, Form, Unknown, OutOfPlace, OutOfRange, Task, TooMany}

abbrev pub fault_number : Fault → ℕ
fault_number TooLong = 1
fault_number (Form f) = form_number f
fault_number Unknown = 4
fault_number OutOfPlace = 5
fault_number OutOfRange = 6
fault_number (Task f) = task_number f
fault_number TooMany = 9
