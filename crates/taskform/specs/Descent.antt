-- What the descent through a task form answers.
use Rattle.std.specs.Prelude.{◌≡◌, ℕ, List, ◌++◌, Some, None, Ok, Err, Result}
use Rattle.std.specs.Borrow.{Bor}
use Rattle.form.specs.Forms.{Parts}
use Rattle.ltlf.specs.declared.operator.Operator.{Operator}
use Rattle.taskform.specs.declared.fault.Fault.{Fault}
use Rattle.taskform.specs.declared.fault.Fault.TheVariants.{NotATask}
use Rattle.taskform.specs.declared.gathered.Gathered.{Gathered}
use Rattle.taskform.specs.Gathering.{Holds}
use Rattle.taskform.specs.Spelling.{operators_in}

-- the form's operators were added to os, and what follows the form is left
pub record Added (h : List ℕ) (ps : Parts) (after : List ℕ) (os : List Operator) (g : Gathered) (rest : List ℕ) : Type 0 where
  pub operators : List Operator
  pub are : operators_in h ps ≡ Some operators
  pub held : Holds (os ++ operators) g
  pub left : rest ≡ after

-- after a form with this head and these parts: it was a task form and its operators were added, or it was none
abbrev pub Descended : List ℕ → Parts → List ℕ → List Operator → Gathered → Result (Bor (List ℕ)) Fault → Type 0
Descended h ps after os g (Ok rest) = Added h ps after os g rest.now
Descended h ps after os g (Err e) = (operators_in h ps ≡ None) × (e ≡ NotATask)
