-- Why best values are refused.
use Rattle.std.specs.Prelude.{ℕ}
use Rattle.best.specs.declared.fault.Fault.{Fault}
use Rattle.best.specs.declared.fault.Fault.TheVariants.{TooShort}

abbrev pub fault_number : Fault → ℕ
fault_number TooShort = 13
