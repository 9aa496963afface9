-- Reading and writing a job undo each other.
use Rattle.std.proofs.Common.{◌≡◌, ℕ, ◌≤◌, Bool, true, false, cond, leb, List, [], ◌∷◌, ◌++◌, length, Ok, Err, Result, sym, refl, ap, ◌∙◌, subst, append_assoc}
use Rattle.std.specs.List.{flat_map}
use Rattle.std.proofs.lemmas.List.{append-nil}
use Rattle.std.proofs.lemmas.Bool.{cond-true, le-leb}
use Rattle.job.specs.declared.fault.Refused.{Refused}
use Rattle.job.specs.declared.place.Place.{Place}
use Rattle.job.specs.declared.place.Place.TheVariants as at
use Rattle.job.specs.Contents.{Contents, within}
use Rattle.job.specs.Rows.{Row, row_bytes, rows_of, writing}
use Rattle.job.specs.Taking.{Draft, blank}
use Rattle.job.specs.Texts.{reading}
use Rattle.job.specs.Theorems.{JobRight}
use Rattle.job.proofs.Broken.{Takes, stay, go, takes_read, read_came}
use Rattle.job.proofs.Stepping.{SaneAt, spelled_at, at_rank, taken_goes}
use Rattle.job.proofs.Leading.{job_takes}

-- lines that are taken are added to the lines of the job
takes_goes : {d e : Draft} {rows : List Row} → Takes d rows e → SaneAt d.place d.job
    → (spelled_at e.place e.job ≡ spelled_at d.place d.job ++ rows) × SaneAt e.place e.job
takes_goes stay s = (sym (append-nil _), s)
takes_goes {d} (go {m = m} {r = r} {rows = rows} g p k w) s =
    let a = taken_goes d.place d.job s m r g k in
    let b = takes_goes w a.sane in
    (b.0 ∙ (ap (λ x. x ++ rows) a.spelled ∙ append_assoc (spelled_at d.place d.job) (r ∷ []) rows), b.1)

-- what is read as a job is its text, and it is within the limits
writes : (t : List ℕ) (j : Contents) (rest : List ℕ) → reading t ≡ Ok (j, rest) → (t ≡ writing j ++ rest) × (within j ≡ true)
writes t j rest e =
    let c = read_came t blank [] 1 j rest refl (short (leb (length t) 65536) _ _ e) in
    let g = takes_goes c.takes tt in
    let i = at_rank c.end.place 8 c.ends in
    let rows : rows_of j ≡ c.rows = ap rows_of (sym c.job) ∙ (ap (λ p. spelled_at p c.end.job) (sym i) ∙ g.0) in (
      c.text ∙ ap (λ x. flat_map row_bytes x ++ rest) (sym rows),
      subst (λ (x : Contents). within x ≡ true) c.job (subst (λ (p : Place). SaneAt p c.end.job) i g.1),
    ) where
      short : (b : Bool) (r : Result (Contents × List ℕ) Refused) (f : Refused) → cond b r (Err f) ≡ Ok (j, rest) → r ≡ Ok (j, rest)
      short true r f e = e
      short false r f e = cc

-- the text of a job within the limits is read as that job
reads : (j : Contents) (rest : List ℕ) → within j ≡ true → length (writing j ++ rest) ≤ 65536 → reading (writing j ++ rest) ≡ Ok (j, rest)
reads j rest w l =
    cond-true (leb (length (writing j ++ rest)) 65536) _ _ (le-leb _ _ l)
    ∙ takes_read blank (record { place = at.Done; job = j }) (rows_of j) 1 rest (job_takes j w) refl refl

pub job_right : JobRight
job_right = record { reads = reads; writes = writes }
