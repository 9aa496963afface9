-- Why a line is refused.
use Rattle.std.specs.Prelude.{ℕ}
use Rattle.form.specs.declared.fault.Fault.{Fault}
use Rattle.form.specs.declared.fault.Fault.TheVariants.{Byte, Shape}

-- the number that a refusal is reported by
abbrev pub fault_number : Fault → ℕ
fault_number Byte = 2
fault_number Shape = 3
