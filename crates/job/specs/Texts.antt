-- A job's text, read line by line.
use Rattle.std.specs.Prelude.{ℕ, suc, cond, List, [], ◌∷◌, ◌++◌, length, Ok, Err, Result, ◌==◌, ◌≢◌, nat_le}
use Rattle.form.specs.Reading.{is_empty}
use Rattle.form.specs.Viewing.{plain}
use Rattle.form.specs.declared.fault.Fault.TheVariants.{Byte, Shape}
use Rattle.job.specs.declared.fault.Fault.{Fault}
use Rattle.job.specs.declared.fault.Fault.TheVariants as fault
use Rattle.job.specs.declared.fault.Refused.{Refused}
use Rattle.job.specs.Contents.{Contents}
use Rattle.job.specs.Rows.{Row, asked}
use Rattle.job.specs.Taking.{Draft, blank, rank, taken}

-- bytes without a line feed
abbrev pub Unbroken : List ℕ → Type 0
Unbroken [] = Unit {0}
Unbroken (b ∷ t) = (b ≢ 10) × Unbroken t

abbrev pub then : Result Row Fault → Draft → Result Draft Fault
then (Ok r) d = taken d r
then (Err f) d = Err f

-- what a line's bytes make of a job
abbrev pub line_taken : Draft → List ℕ → Result Draft Fault
line_taken d bs = then (asked bs) d

-- after a line: the refusal, or the whole job and the rest, or the next line
abbrev pub on : Result Draft Fault → ℕ → List ℕ → (Draft → Result (Contents × List ℕ) Refused) → Result (Contents × List ℕ) Refused
on (Ok d) n t next = cond (rank d.place == 8) (Ok (d.job, t)) (next d)
on (Err f) n t next = Err (record { fault = f; line = n })

-- why what has no line feed is refused: at the text's end a line is missing; else it has a bad byte, or has not ended
abbrev pub unended : List ℕ → Fault
unended t = cond (is_empty t) fault.OutOfPlace (cond (plain t) (fault.Form Shape) (fault.Form Byte))

-- from line n on, of which bs was read
abbrev pub read_on : Draft → List ℕ → ℕ → List ℕ → Result (Contents × List ℕ) Refused
read_on d bs n [] = Err (record { fault = unended bs; line = n })
read_on d bs n (b ∷ t) = cond (b == 10) (on (line_taken d bs) n t (λ e. read_on e [] (suc n) t)) (read_on d (bs ++ b ∷ []) n t)

-- the job that a text begins with, and the rest; or the first no, and its line
abbrev pub reading : List ℕ → Result (Contents × List ℕ) Refused
reading t = cond (nat_le (length t) 65536) (read_on blank [] 1 t) (Err (record { fault = fault.TooLong; line = 0 }))
