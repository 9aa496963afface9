-- What the fields of the job record stand for.
use Rattle.std.specs.Prelude.{◌≡◌, List, ℕ, Ok, Err, vec_items, Result}
use Rattle.job.specs.declared.draft.Draft as drafted
use Rattle.job.specs.declared.fault.Fault.{Fault}
use Rattle.job.specs.declared.record.Job.{Job}
use Rattle.job.specs.Contents.{Layout, Contents}
use Rattle.job.specs.Holding.{layout, contents}
use Rattle.job.specs.Rows.{Row}
use Rattle.job.specs.Taking.{Draft, taken}
use Rattle.job.specs.Texts.{line_taken}

abbrev pub layout_of : drafted.Draft → Layout
layout_of d = layout d.kind (vec_items d.letters) (vec_items d.legs) (vec_items d.zones)

abbrev pub contents_of : Job → Contents
contents_of j = contents j.draft

-- a record that is being filled, and which line may come next
abbrev pub draft_of : drafted.Draft → Draft
draft_of d = record { place = d.place; job = contents d }

-- a row was taken, which made one draft of another, or it was refused
abbrev pub Takes : drafted.Draft → Row → Result (Unit {0}) Fault → drafted.Draft → Type 0
Takes d r (Ok _) e = taken (draft_of d) r ≡ Ok (draft_of e)
Takes d r (Err f) e = taken (draft_of d) r ≡ Err f

-- the same of a row's bytes
abbrev pub TakesBytes : drafted.Draft → List ℕ → Result (Unit {0}) Fault → drafted.Draft → Type 0
TakesBytes d bs (Ok _) e = line_taken (draft_of d) bs ≡ Ok (draft_of e)
TakesBytes d bs (Err f) e = line_taken (draft_of d) bs ≡ Err f
