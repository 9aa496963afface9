use Rattle.taskform.proofs.Limits.{read_all}
use Rattle.taskform.proofs.gathered.Gathered.operators.Goals as goal

pub returns : goal.returns
returns c os h few = read_all os c.args.self.now c.get.result h few c.get.ensures.lookup.0
