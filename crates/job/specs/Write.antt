-- Why a job is not written.
use Rattle.std.specs.Prelude.{ℕ, Bool, cond, Some, None, Option, nat_le}
use Rattle.job.specs.declared.write_fault.WriteFault.{WriteFault}
use Rattle.job.specs.declared.write_fault.WriteFault.TheVariants.{Empty, TooShort}

abbrev pub write_number : WriteFault → ℕ
write_number Empty = 5
write_number TooShort = 13

-- the first no of the questions that writing is asked, or none: is a job held, and does its text fit into the memory
abbrev pub write_fault : Bool → ℕ → ℕ → Option WriteFault
write_fault held text memory = cond held (cond (nat_le text memory) None (Some TooShort)) (Some Empty)
