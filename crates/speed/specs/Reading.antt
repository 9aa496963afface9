-- What the benchmark of the reader is told.
use Rattle.std.specs.Prelude.{ℕ, List, Ok, Err, Result}
use Rattle.job.specs.Contents.{Contents}
use Rattle.job.specs.Faults.{fault_number}
use Rattle.job.specs.declared.fault.Refused.{Refused}

-- the number of a refusal, 0 where a job is read
abbrev pub number_of : Result (Contents × List ℕ) Refused → ℕ
number_of (Ok j) = 0
number_of (Err e) = fault_number e.fault
