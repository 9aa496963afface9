-- The formula that a checked list of operators stands for.
use Rattle.std.specs.Prelude.{List, take}
use Rattle.ltlf.specs.declared.operator.Operator.{Operator}
use Rattle.ltlf.specs.Ltlf.{Ltlf}
use Rattle.ltlf.specs.Prefix.{meaning}
use Rattle.task.specs.declared.formula.Formula.{Formula}

abbrev pub written : Formula → List Operator
written f = take f.count f.operators

abbrev pub formula_of : Formula → Ltlf
formula_of f = meaning (written f)
