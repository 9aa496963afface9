-- Reading and writing a job undo each other.
use Rattle.std.specs.Prelude.{◌≡◌, ℕ, ◌≤◌, true, List, ◌++◌, length, Ok}
use Rattle.job.specs.Contents.{Contents, within}
use Rattle.job.specs.Rows.{writing}
use Rattle.job.specs.Texts.{reading}

-- the text of a job within the limits is read as that job, with whatever follows as the rest; and what is read as a job is
-- that job's text, followed by the rest, and the job is within the limits: so just the texts of such jobs are accepted
pub record JobRight : Type 0 where
  pub reads : (j : Contents) (rest : List ℕ) → within j ≡ true → length (writing j ++ rest) ≤ 65536 → reading (writing j ++ rest) ≡ Ok (j, rest)
  pub writes : (t : List ℕ) (j : Contents) (rest : List ℕ) → reading t ≡ Ok (j, rest) → (t ≡ writing j ++ rest) × (within j ≡ true)
