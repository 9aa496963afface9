-- What was read may be held.
use Rattle.std.proofs.Common.{◌≡◌, ℕ, ◌<◌, ◌≤◌, true, leb, List, length, Ok, Err, ap, arith, length-append}
use Rattle.std.proofs.lemmas.Bool.{and_from, le-leb, lt-leb, cond-false}
use Rattle.job.specs.declared.fault.Fault.TheVariants.{TooLong}
use Rattle.job.specs.Contents.{Contents, within}
use Rattle.job.specs.Holding.{right_if}
use Rattle.job.specs.Rows.{writing}
use Rattle.job.specs.Texts.{reading}
use Rattle.job.proofs.RoundTrip.{job_right}

pub held_right : (t : List ℕ) (j : Contents) (rest : List ℕ) → length t ≤ 65536 → reading t ≡ Ok (j, rest) → right_if true j ≡ true
held_right t j rest l e =
    let w = job_right.writes t j rest e in
    and_from (within j) (leb (length (writing j)) 65536) w.1
    (le-leb (length (writing j)) 65536 (omega (arith, ap length w.0, length-append (writing j) rest)))

pub too_long : (t : List ℕ) → 65536 < length t → reading t ≡ Err (record { fault = TooLong; line = 0 })
too_long t l = cond-false (leb (length t) 65536) _ _ (lt-leb (length t) 65536 l)
