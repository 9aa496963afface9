-- What the compiler of task forms answers.
use Rattle.std.specs.Prelude.{◌≡◌, ℕ, List, Some, None, Ok, Err, Result}
use Rattle.form.specs.Forms.{Tree, Good, bytes_of}
use Rattle.task.specs.Compiled.{operators_of, marks_of}
use Rattle.task.specs.declared.compiled.Task.{Task}
use Rattle.taskform.specs.declared.fault.Fault.{Fault}
use Rattle.taskform.specs.Faults.{compile_fault}
use Rattle.taskform.specs.Spelling.{operators_in}

-- the bytes are those of a form, and the task has its operators
pub record Compiles (p : ℕ) (text : List ℕ) (t : Task) : Type 0 where
  pub faultless : compile_fault p text ≡ None
  pub tree : Tree
  pub good : Good tree
  pub bytes : text ≡ bytes_of tree
  pub operators : operators_in tree.head tree.parts ≡ Some (operators_of t)
  pub marks : marks_of t ≡ p

-- a task, or the first no
abbrev pub Compiled : ℕ → List ℕ → Result Task Fault → Type 0
Compiled p text (Ok t) = Compiles p text t
Compiled p text (Err e) = compile_fault p text ≡ Some e
