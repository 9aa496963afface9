use Rattle.std.proofs.Common.{refl}
use Rattle.law.proofs.Computed.{worked as worked_run}
use Rattle.law.proofs.Lawful.{runs_lawful, sites_stay, guides_mark, moves_counted, calls_answered, decisions_plan, opening_determined, refusals_determined, calls_determined}
use Rattle.worked.proofs.Computed.{worked}
use Rattle.worked.proofs.bore_operators.Goals as goal

pub returns : goal.returns
returns c =
    record {
      formula = refl;
      worked = (worked, worked_run);
      law = runs_lawful;
      always = (sites_stay, guides_mark, moves_counted, calls_answered, decisions_plan);
      determined = (opening_determined, refusals_determined, calls_determined);
    }
