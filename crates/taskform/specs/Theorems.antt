-- Task forms and formulas in prefix order are the same, each with its own spelling.
use Rattle.std.specs.Prelude.{◌≡◌, List, Some}
use Rattle.form.specs.Forms.{Tree}
use Rattle.ltlf.specs.declared.operator.Operator.{Operator}
use Rattle.ltlf.specs.Grammar.{Writes}
use Rattle.ltlf.specs.Ltlf.{Ltlf}
use Rattle.taskform.specs.Spelling.{operators_in, task_tree}

-- the form of a formula in prefix order has just its operators, and a form with operators is the form of these, which are
-- one formula
pub record TaskForms : Type 0 where
  pub reads : (os : List Operator) (g : Ltlf) → Writes os g → operators_in (task_tree os).head (task_tree os).parts ≡ Some os
  pub writes : (f : Tree) (os : List Operator) → operators_in f.head f.parts ≡ Some os → (task_tree os ≡ f) × (g : Ltlf) × Writes os g
