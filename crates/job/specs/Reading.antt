-- What the reader of a job answers, and what the record then holds.
use Rattle.std.specs.Prelude.{◌≡◌, ℕ, true, false, List, ◌++◌, Ok, Err, Result}
use Rattle.std.specs.Borrow.{Bor}
use Rattle.job.specs.declared.fault.Refused.{Refused}
use Rattle.job.specs.declared.record.Job.{Job}
use Rattle.job.specs.Contents.{empty, within}
use Rattle.job.specs.Records.{contents_of}
use Rattle.job.specs.Rows.{writing}
use Rattle.job.specs.Texts.{reading}

-- the record holds the job that was read, and the rest is left; or the first no and its line, and the record is empty
abbrev pub Reads : List ℕ → Result (Bor (List ℕ)) Refused → Job → Type 0
Reads t (Ok rest) j = (reading t ≡ Ok (contents_of j, rest.now)) × (j.held ≡ true)
Reads t (Err e) j = (reading t ≡ Err e) × (contents_of j ≡ empty) × (j.held ≡ false)

-- a text that was accepted is the text of the job that is now held, which is within the limits, and then the rest
abbrev pub ReadBack : List ℕ → Result (Bor (List ℕ)) Refused → Job → Type 0
ReadBack t (Ok rest) j = (t ≡ writing (contents_of j) ++ rest.now) × (within (contents_of j) ≡ true)
ReadBack t (Err e) j = Unit {0}
