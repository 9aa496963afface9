-- What writing a job leaves in the memory.
use Rattle.std.proofs.Common.{◌≡◌, ℕ, ◌+◌, ◌≤◌, min, Bool, true, false, cond, ◌&&◌, leb, List, ◌++◌, length, take, drop, Some, None, Ok, sym, refl, ap, ◌∙◌, arith}
use Rattle.std.proofs.lemmas.List.{take_at}
use Rattle.std.proofs.lemmas.Bool.{and_parts, cond-true, leb-true, le-leb}
use Rattle.form.specs.Putting.{Puts}
use Rattle.form.proofs.Put.{puts_fits}
use Rattle.job.specs.declared.write_fault.WriteFault.TheVariants.{TooShort}
use Rattle.job.specs.Contents.{Contents, within}
use Rattle.job.specs.Holding.{right_if}
use Rattle.job.specs.Rows.{writing}
use Rattle.job.specs.Texts.{reading}
use Rattle.job.specs.Write.{write_fault}
use Rattle.job.proofs.RoundTrip.{job_right}

-- where writing is not refused, a job is held and its text fits
unrefused : (held : Bool) (text memory : ℕ) → write_fault held text memory ≡ None → (held ≡ true) × (text ≤ memory)
unrefused true text memory e = (refl, by (leb text memory) refl e) where
  by : (b : Bool) → leb text memory ≡ b → cond b None (Some TooShort) ≡ None → text ≤ memory
  by true k f = leb-true text memory k
  by false k f = let z : ◌≡◌ {A = ℕ} 0 1 = cc in absurd (omega arith)
unrefused false text memory e = let z : ◌≡◌ {A = ℕ} 0 1 = cc in absurd (omega arith)

-- bytes that fit, put at the beginning
puts_first : (bs m n : List ℕ) (s : ℕ) → Puts 0 bs m s n → length bs ≤ length m → length m ≤ 18446744073709551615 → (s ≡ length bs) × (n ≡ bs ++ drop s m)
puts_first bs m n s puts l long =
    let p = puts_fits puts (omega arith) long in
    let e : s ≡ length bs = omega (arith, p.0) in
    (e, p.1 ∙ ap (λ k. bs ++ drop k m) (omega (arith, e)))

module _ (held : Bool) (j : Contents) (right : right_if held j ≡ true) where
  -- a job that is held is within the limits, and so short that it can be read
  pub sides : held ≡ true → (within j ≡ true) × (leb (length (writing j)) 65536 ≡ true)
  sides h = and_parts (within j) (leb (length (writing j)) 65536) (sym (cond-true held (within j && leb (length (writing j)) 65536) true h) ∙ right)

  -- a job is held, and its text was measured and fits
  pub passes : (text room : ℕ) → held ≡ true → text ≡ min (0 + length (writing j)) 18446744073709551615 → text ≤ room
      → write_fault held (length (writing j)) room ≡ None
  passes text room h e l =
      cond-true held _ _ h
      ∙ cond-true (leb (length (writing j)) room) None (Some TooShort) (le-leb _ _ (omega (arith, e, leb-true (length (writing j)) 65536 (sides h).1)))

  module _ (m n : List ℕ) (s : ℕ) (puts : Puts 0 (writing j) m s n) (long : length m ≤ 18446744073709551615)
      (e : write_fault held (length (writing j)) (length m) ≡ None) where
    pub written : (s ≡ length (writing j)) × (n ≡ writing j ++ drop s m)
    written = puts_first (writing j) m n s puts (unrefused held (length (writing j)) (length m) e).1 long

    pub readable : (rest : List ℕ) → length (writing j ++ rest) ≤ 65536 → reading (take s n ++ rest) ≡ Ok (j, rest)
    readable rest k =
        ap (λ x. reading (x ++ rest)) (ap (take s) written.1 ∙ take_at (writing j) _ s (sym written.0))
        ∙ job_right.reads j rest (sides (unrefused held (length (writing j)) (length m) e).0).0 k
