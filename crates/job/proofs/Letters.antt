-- The letters of stations and their label lines.
use Rattle.std.proofs.Common.{◌≡◌, ℕ, zero, suc, ◌+◌, ◌<◌, ◌≤◌, Bool, true, false, cond, eqb, List, [], ◌∷◌, ◌++◌, length, set, replicate, sym, refl, ap, ◌∙◌, arith}
use Rattle.std.proofs.lemmas.Bool.{cond-true, cond-false, ne_eqb}
use Rattle.job.specs.Rows.{label, label_rows}

-- letters that are 0 from a station on
abbrev pub ZeroFrom : ℕ → List ℕ → Type 0
ZeroFrom k [] = Unit {0}
ZeroFrom zero (a ∷ letters) = (a ≡ 0) × ZeroFrom zero letters
ZeroFrom (suc k) (a ∷ letters) = ZeroFrom k letters

pub zero_replicate : (n : ℕ) → ZeroFrom 0 (replicate n 0)
zero_replicate zero = tt
zero_replicate (suc n) = (refl, zero_replicate n)

pub zero_set : (k s a : ℕ) (letters : List ℕ) → k ≤ s → ZeroFrom k letters → ZeroFrom (suc s) (set letters s a)
zero_set k s a [] l z = tt
zero_set zero zero a (x ∷ letters) l z = z.1
zero_set zero (suc s) a (x ∷ letters) l z = zero_set zero s a letters (omega arith) z.1
zero_set (suc k) zero a (x ∷ letters) l z = absurd (omega arith)
zero_set (suc k) (suc s) a (x ∷ letters) l z = zero_set k s a letters (omega arith) z

-- letters that are all 0 have no label
pub zero_rows : (b : ℕ) (letters : List ℕ) → ZeroFrom 0 letters → label_rows b letters ≡ []
zero_rows b [] z = refl
zero_rows b (x ∷ letters) z = cond-true (eqb x 0) _ _ (ap (λ y. eqb y 0) z.0) ∙ zero_rows (suc b) letters z.1

set_more : (b x s a : ℕ) (letters : List ℕ) → label_rows (suc b) (set letters s a) ≡ label_rows (suc b) letters ++ label (suc b + s) a ∷ []
    → label_rows b (x ∷ set letters s a) ≡ label_rows b (x ∷ letters) ++ label (b + suc s) a ∷ []
set_more b x s a letters e = by (eqb x 0) where
  by : (y : Bool) → cond y (label_rows (suc b) (set letters s a)) (label b x ∷ label_rows (suc b) (set letters s a))
      ≡ cond y (label_rows (suc b) letters) (label b x ∷ label_rows (suc b) letters) ++ label (b + suc s) a ∷ []
  by true = e ∙ ap (λ y. label_rows (suc b) letters ++ label y a ∷ []) (omega arith)
  by false = ap (λ y. label b x ∷ y) (e ∙ ap (λ y. label_rows (suc b) letters ++ label y a ∷ []) (omega arith))

-- a letter more, where all are 0, is a label more
pub set_rows : (b k s a : ℕ) (letters : List ℕ) → k ≤ s → s < length letters → 1 ≤ a → ZeroFrom k letters
    → label_rows b (set letters s a) ≡ label_rows b letters ++ label (b + s) a ∷ []
set_rows b k s a [] l h o z = absurd (omega arith)
set_rows b zero zero a (x ∷ letters) l h o z =
    cond-false (eqb a 0) _ _ (ne_eqb a 0 (λ e. omega arith))
    ∙ (ap (λ y. label b a ∷ y) (zero_rows (suc b) letters z.1)
    ∙ (ap (λ y. label y a ∷ []) (omega arith) ∙ ap (λ y. y ++ label (b + 0) a ∷ []) (sym (zero_rows b (x ∷ letters) z))))
set_rows b zero (suc s) a (x ∷ letters) l h o z = set_more b x s a letters (set_rows (suc b) zero s a letters (omega arith) (omega arith) o z.1)
set_rows b (suc k) zero a (x ∷ letters) l h o z = absurd (omega arith)
set_rows b (suc k) (suc s) a (x ∷ letters) l h o z = set_more b x s a letters (set_rows (suc b) k s a letters (omega arith) (omega arith) o z)
