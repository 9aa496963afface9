use Rattle.std.proofs.Common.{◌≡◌, ◌-◌, List, take, sym, ap, subst, arith}
use Rattle.ltlf.specs.declared.operator.Operator.{Operator}
use Rattle.ltlf.specs.Grammar.{Writes}
use Rattle.task.specs.Written.{formula_of}
use Rattle.task.proofs.Compiling.{checked_writes}
use Rattle.task.proofs.formula.Formula.operators.Goals as goal

pub returns : goal.returns
returns c =
    let f = c.args.self.now in
    let e = ap (λ n. take n f.operators) (let z : f.count - 0 ≡ f.count = omega arith in z) in
    record {
      are = e;
      formula = subst (λ (os : List Operator). Writes os (formula_of f)) (sym e) (checked_writes f);
    }
