use Rattle.std.proofs.Common.{◌≡◌, ◌%◌, ap, arith}
use Rattle.ltlf.specs.declared.operator.Operator.TheVariants.{Mark}
use Rattle.taskform.proofs.gathered.Gathered.push_mark.Goals as goal

pub returns : goal.returns
returns c os h = c.keep.ensures os (Mark c.args.mark) h (omega arith) (λ l. ap Mark (let e : c.args.mark % 256 ≡ c.args.mark = omega arith in e))
