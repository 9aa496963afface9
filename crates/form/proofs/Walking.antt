-- What the cursor finds at the beginning of a form's bytes.
use Rattle.std.proofs.Common.{◌≡◌, ℕ, ◌+◌, ◌-◌, ◌*◌, ◌/◌, ◌%◌, ◌<◌, true, false, ◌&&◌, ltb, List, [], ◌∷◌, ◌++◌, length, take, drop, Some, decimal, sym, refl, ap, ◌∙◌, inl, inr, append_assoc, arith}
use Rattle.std.specs.List.{prefix_len}
use Rattle.std.proofs.lemmas.List.{take_at, drop_at}
use Rattle.std.proofs.lemmas.Fmt.{decimal_by_steps}
use Rattle.std.proofs.lemmas.Bool.{lt-ltb, and_from, and_left, cond-true, cond-false, cases_Bool}
use Rattle.form.specs.Forms.{Parts, none, number, inner, written, line_of, letter, Letters, Good}
use Rattle.form.specs.Reading.{digit, form_of}
use Rattle.form.specs.Viewing.{counted, uncounted}
use Rattle.form.proofs.Right.{reading_right, is_digit}

-- what follows a head or a number in a form begins with no letter and no digit
pub letter_stops : (ps : Parts) (y : List ℕ) → prefix_len letter (written ps ++ 41 ∷ y) ≡ 0
letter_stops none y = refl
letter_stops (number n ps) y = refl
letter_stops (inner h rs ps) y = refl

pub digit_stops : (ps : Parts) (y : List ℕ) → prefix_len digit (written ps ++ 41 ∷ y) ≡ 0
digit_stops none y = refl
digit_stops (number n ps) y = refl
digit_stops (inner h rs ps) y = refl

-- a word, read back
pub word_length : (h rest : List ℕ) → Letters h → prefix_len letter rest ≡ 0 → prefix_len letter (h ++ rest) ≡ length h
word_length [] rest l e = e
word_length (b ∷ h) rest l e = cond-true (letter b) _ _ l.0 ∙ omega (arith, word_length h rest l.1 e)

pub word_front : (h rest : List ℕ) → Letters h → prefix_len letter rest ≡ 0 → take (prefix_len letter (h ++ rest)) (h ++ rest) ≡ h
word_front h rest l e = take_at h rest _ (sym (word_length h rest l e))

pub word_rest : (h rest : List ℕ) → Letters h → prefix_len letter rest ≡ 0 → drop (prefix_len letter (h ++ rest)) (h ++ rest) ≡ rest
word_rest h rest l e = drop_at h rest _ (sym (word_length h rest l e))

-- a number, read back
-- what steps over each digit steps over a number's digits
over_digits : {Y : Type 0} (F : ℕ → List ℕ → Y) → ((m b : ℕ) (t : List ℕ) → (digit b && ltb m 100000) ≡ true → F m (b ∷ t) ≡ F (m * 10 + (b - 48)) t)
    → (n : ℕ) (y : List ℕ) → n < 1000000 → F 0 (decimal n ++ y) ≡ F n y
over_digits F steps n y small =
    decimal_by_steps (λ m ds. (r : List ℕ) → m < 1000000 → F 0 (ds ++ r) ≡ F m r)
    (λ m l r _. steps 0 (48 + m) r (and_from _ true (is_digit m l) refl) ∙ ap (λ x. F x r) (omega arith))
    (λ m ds l before r bound.
    let hi : m / 10 < 100000 = omega arith in
    ap (F 0) (append_assoc ds ((48 + m % 10) ∷ []) r)
    ∙ (before ((48 + m % 10) ∷ r) (omega arith)
    ∙ (steps (m / 10) (48 + m % 10) r (and_from _ _ (is_digit (m % 10) (omega arith)) (lt-ltb _ _ hi))
    ∙ ap (λ x. F x r) (omega arith))))
    n (omega arith) y small

no_digit : (b : ℕ) (y : List ℕ) → prefix_len digit (b ∷ y) ≡ 0 → digit b ≡ false
no_digit b y e =
    elim (cases_Bool (digit b)) [
      | inl t ↦ absurd (omega (arith, sym e ∙ cond-true (digit b) _ _ t))
      | inr f ↦ f
    ]

counted_stops : (n : ℕ) (y : List ℕ) → prefix_len digit y ≡ 0 → counted n y ≡ n
counted_stops n [] e = refl
counted_stops n (b ∷ y) e = cond-false _ _ n (and_left (digit b) _ (no_digit b y e))

uncounted_stops : (n : ℕ) (y : List ℕ) → prefix_len digit y ≡ 0 → uncounted n y ≡ y
uncounted_stops n [] e = refl
uncounted_stops n (b ∷ y) e = cond-false _ _ (b ∷ y) (and_left (digit b) _ (no_digit b y e))

pub number_value : (n : ℕ) (y : List ℕ) → n < 1000000 → prefix_len digit y ≡ 0 → counted 0 (decimal n ++ y) ≡ n
number_value n y small e = over_digits counted (λ m b t e. cond-true _ _ m e) n y small ∙ counted_stops n y e

pub number_rest : (n : ℕ) (y : List ℕ) → n < 1000000 → prefix_len digit y ≡ 0 → uncounted 0 (decimal n ++ y) ≡ y
number_rest n y small e = over_digits uncounted (λ m b t e. cond-true _ _ (b ∷ t) e) n y small ∙ uncounted_stops n y e

-- a form inside a form
pub sub_good : (g h : List ℕ) (ps qs : Parts) → Good (record { head = g; parts = inner h ps qs }) → Good (record { head = h; parts = ps })
sub_good g h ps qs f = record { word = f.sound.0; sound = f.sound.1; deep = omega (arith, f.deep) }

-- a form is read from its own bytes
pub line_reads : (h : List ℕ) (ps : Parts) → Good (record { head = h; parts = ps }) → form_of (line_of h ps) ≡ Some (record { head = h; parts = ps })
line_reads h ps g = reading_right.reads (record { head = h; parts = ps }) g
