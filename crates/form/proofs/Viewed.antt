-- What the reader shows of a form, part by part.
use Rattle.std.proofs.Common.{◌≡◌, ℕ, suc, ◌+◌, ◌-◌, ◌%◌, ◌^◌, ◌<◌, ◌≤◌, Bool, true, false, cond, eqb, leb, List, [], ◌∷◌, ◌++◌, length, take, drop, is_some, Some, None, decimal, Option, sym, refl, ap, ◌∙◌, append_assoc, arith, length-append}
use Rattle.std.specs.List.{prefix_len}
use Rattle.std.proofs.lemmas.List.{take_at, drop_at}
use Rattle.std.proofs.lemmas.Fmt.{decimal_by_steps, decimal_nonempty}
use Rattle.std.proofs.lemmas.Bool.{eq-eqb, ne_eqb, leb-true, and_parts, cond-true, cond-false}
use Rattle.form.specs.Forms.{Parts, none, number, inner, Tree, written, line_of, letter, Letters, Word, Sound, Good}
use Rattle.form.specs.Reading.{form_of}
use Rattle.form.proofs.Right.{reading_right, same_some}
use Rattle.form.proofs.Walking.{letter_stops, digit_stops, word_front, word_rest, number_value, number_rest}
use Rattle.form.specs.Viewing.{Piece, value, bracketed, pieces, counted, uncounted, enclosed, first, parted}

module _ (d b : ℕ) (t : List ℕ) where
  pub enclosed_end : b ≡ 41 → d ≡ 0 → enclosed d (b ∷ t) ≡ 1
  enclosed_end e f = ap suc (cond-true (eqb b 41) _ _ (eq-eqb b 41 e) ∙ cond-true (eqb d 0) _ _ (eq-eqb d 0 f))

  pub enclosed_less : b ≡ 41 → (d ≡ 0 → ⊥) → enclosed d (b ∷ t) ≡ suc (enclosed (d - 1) t)
  enclosed_less e f = ap suc (cond-true (eqb b 41) _ _ (eq-eqb b 41 e) ∙ cond-false (eqb d 0) _ _ (ne_eqb d 0 f))

  pub enclosed_more : (b ≡ 41 → ⊥) → b ≡ 40 → enclosed d (b ∷ t) ≡ suc (enclosed (d + 1) t)
  enclosed_more e f = ap suc (cond-false (eqb b 41) _ _ (ne_eqb b 41 e) ∙ cond-true (eqb b 40) _ _ (eq-eqb b 40 f))

  pub enclosed_same : (b ≡ 41 → ⊥) → (b ≡ 40 → ⊥) → enclosed d (b ∷ t) ≡ suc (enclosed d t)
  enclosed_same e f = ap suc (cond-false (eqb b 41) _ _ (ne_eqb b 41 e) ∙ cond-false (eqb b 40) _ _ (ne_eqb b 40 f))

cond_le : (b : Bool) (m n k : ℕ) → m ≤ k → n ≤ k → cond b m n ≤ k
cond_le true m n k p q = p
cond_le false m n k p q = q

pub enclosed_le : (t : List ℕ) (d : ℕ) → enclosed d t ≤ length t
enclosed_le [] d = omega arith
enclosed_le (b ∷ t) d =
    let m = cond_le (eqb b 41) _ _ (length t) (cond_le (eqb d 0) 0 (enclosed (d - 1) t) (length t) (omega arith) (enclosed_le t (d - 1)))
    (cond_le (eqb b 40) (enclosed (d + 1) t) (enclosed d t) (length t) (enclosed_le t (d + 1)) (enclosed_le t d)) in
    omega arith

-- bytes with no bracket among them
abbrev Flat : List ℕ → Type 0
Flat [] = Unit {0}
Flat (b ∷ t) = (41 < b) × Flat t

enclosed_flat : (bs : List ℕ) (d : ℕ) (rest : List ℕ) → Flat bs → enclosed d (bs ++ rest) ≡ length bs + enclosed d rest
enclosed_flat [] d rest f = omega arith
enclosed_flat (b ∷ bs) d rest f =
    enclosed_same d b (bs ++ rest) (λ e. omega (arith, f.0)) (λ e. omega (arith, f.0)) ∙ omega (arith, enclosed_flat bs d rest f.1)

letter_parts : (b : ℕ) → letter b ≡ true → (97 ≤ b) × (b ≤ 122)
letter_parts b t = let p = and_parts (leb 97 b) (leb b 122) t in (leb-true 97 b p.0, leb-true b 122 p.1)

letters_flat : (h : List ℕ) → Letters h → Flat h
letters_flat [] l = tt
letters_flat (b ∷ h) l = (omega (arith, (letter_parts b l.0).0), letters_flat h l.1)

flat_push : (bs : List ℕ) (b : ℕ) → Flat bs → 41 < b → Flat (bs ++ b ∷ [])
flat_push [] b f l = (l, tt)
flat_push (x ∷ bs) b f l = (f.0, flat_push bs b f.1 l)

decimal_flat : (n : ℕ) → n < 2 ^ 64 → Flat (decimal n)
decimal_flat n l = decimal_by_steps (λ m ds. Flat ds) (λ m k. (omega arith, tt)) (λ m ds k f. flat_push ds (48 + m % 10) f (omega arith)) n l

enclosed_written : (ps : Parts) (d : ℕ) (rest : List ℕ) → Sound ps → enclosed d (written ps ++ rest) ≡ length (written ps) + enclosed d rest
enclosed_written none d rest o = omega arith
enclosed_written (number n ps) d rest o =
    enclosed_same d 32 _ (λ e. omega arith) (λ e. omega arith)
    ∙ (ap (λ x. suc (enclosed d x)) (append_assoc (decimal n) (written ps) rest)
    ∙ omega (arith, enclosed_flat (decimal n) d (written ps ++ rest) (decimal_flat n (omega (arith, o.0))), enclosed_written ps d rest o.1, length-append (decimal n) (written ps)))
enclosed_written (inner h rs ps) d rest o =
    let t = (h ++ (written rs ++ 41 ∷ written ps)) ++ rest in
    enclosed_same d 32 (40 ∷ t) (λ e. omega arith) (λ e. omega arith)
    ∙ (ap suc (enclosed_more d 40 t (λ e. omega arith) refl)
    ∙ (ap (λ x. suc (suc (enclosed (d + 1) x))) (append_assoc h (written rs ++ 41 ∷ written ps) rest ∙ ap (λ x. h ++ x) (append_assoc (written rs) (41 ∷ written ps) rest))
    ∙ omega (
      arith,
      enclosed_flat h (d + 1) (written rs ++ (41 ∷ written ps ++ rest)) (letters_flat h o.0.letters),
      enclosed_written rs (d + 1) (41 ∷ written ps ++ rest) o.1,
      enclosed_less (d + 1) 41 (written ps ++ rest) refl (λ e. omega arith),
      ap (λ x. enclosed x (written ps ++ rest)) (let e : d + 1 - 1 ≡ d = omega arith in e),
      enclosed_written ps d rest o.2,
      length-append h (written rs ++ 41 ∷ written ps),
      length-append (written rs) (41 ∷ written ps),
    )))

-- what is left of a form after its next part
pub record Next (ps : Parts) (p : Piece) (y : List ℕ) : Type 0 where
  pub rest : Parts
  pub sound : Sound rest
  pub whole : pieces ps ≡ p ∷ pieces rest
  pub left : y ≡ written rest ++ 41 ∷ []

flat_first : (ds t : List ℕ) → 0 < length ds → Flat ds → first (ds ++ t) ≡ (value (counted 0 (ds ++ t)), uncounted 0 (ds ++ t))
flat_first [] t l f = absurd (omega arith)
flat_first (b ∷ ds) t l f = cond-false (eqb b 40) _ _ (ne_eqb b 40 (λ e. omega (arith, f.0)))

first_number_read : (n : ℕ) (ps : Parts) → n < 1000000 → first (decimal n ++ (written ps ++ 41 ∷ [])) ≡ (value n, written ps ++ 41 ∷ [])
first_number_read n ps small =
    let t = written ps ++ 41 ∷ [] in
    let e = number_value n t small (digit_stops ps []) in
    let f = number_rest n t small (digit_stops ps []) in
    flat_first (decimal n) t (decimal_nonempty n (omega arith)) (decimal_flat n (omega arith))
    ∙ (ap (λ x. (value x, uncounted 0 (decimal n ++ t))) e ∙ ap (λ x. (value n, x)) f)

enclosed_line : (h : List ℕ) (rs : Parts) (y : List ℕ) → Word h → Sound rs → enclosed 0 ((h ++ (written rs ++ 41 ∷ [])) ++ y) ≡ length (h ++ (written rs ++ 41 ∷ []))
enclosed_line h rs y w o =
    ap (enclosed 0) (append_assoc h (written rs ++ 41 ∷ []) y ∙ ap (λ x. h ++ x) (append_assoc (written rs) (41 ∷ []) y))
    ∙ omega (
      arith,
      enclosed_flat h 0 (written rs ++ (41 ∷ y)) (letters_flat h w.letters),
      enclosed_written rs 0 (41 ∷ y) o,
      enclosed_end 0 41 y refl refl,
      length-append h (written rs ++ 41 ∷ []),
      length-append (written rs) (41 ∷ []),
    )

first_inner : (h : List ℕ) (rs : Parts) (y : List ℕ) → Word h → Sound rs → first (40 ∷ ((h ++ (written rs ++ 41 ∷ [])) ++ y)) ≡ (bracketed (line_of h rs), y)
first_inner h rs y w o =
    let z = h ++ (written rs ++ 41 ∷ []) in
    let e : length (40 ∷ z) ≡ suc (enclosed 0 (z ++ y)) = omega (arith, enclosed_line h rs y w o) in
    ap (λ x. (bracketed x, drop (suc (enclosed 0 (z ++ y))) (40 ∷ (z ++ y)))) (take_at (40 ∷ z) y _ e)
    ∙ ap (λ x. (bracketed (40 ∷ z), x)) (drop_at (40 ∷ z) y _ e)

inner_bytes : (h : List ℕ) (rs ps : Parts) → (h ++ (written rs ++ 41 ∷ written ps)) ++ 41 ∷ [] ≡ (h ++ (written rs ++ 41 ∷ [])) ++ (written ps ++ 41 ∷ [])
inner_bytes h rs ps = simp append_assoc

parts_none : (ps : Parts) → Sound ps → parted (written ps ++ 41 ∷ []) ≡ None → pieces ps ≡ []
parts_none none o e = refl
parts_none (number n ps) o e = let z : ◌≡◌ {A = ℕ} 0 1 = cc in absurd (omega arith)
parts_none (inner h rs ps) o e = let z : ◌≡◌ {A = ℕ} 0 1 = cc in absurd (omega arith)

-- what was taken, as a pair
taken : (ps : Parts) (q p : Piece) (rest : Parts) (y : List ℕ) → Sound rest → pieces ps ≡ q ∷ pieces rest
    → ◌≡◌ {A = Piece × List ℕ} (q, written rest ++ 41 ∷ []) (p, y) → Next ps p y
taken ps q p rest y o w e = record { rest = rest; sound = o; whole = w ∙ ap (λ x. x ∷ pieces rest) (ap (λ x. x.0) e); left = sym (ap (λ x. x.1) e) }

parts_some : (ps : Parts) (p : Piece) (y : List ℕ) → Sound ps → parted (written ps ++ 41 ∷ []) ≡ Some (p, y) → Next ps p y
parts_some none p y o e = let z : ◌≡◌ {A = ℕ} 0 1 = cc in absurd (omega arith)
parts_some (number n ps) p y o e =
    taken (number n ps) (value n) p ps y o.1 refl
    (sym (first_number_read n ps o.0) ∙ (ap first (sym (append_assoc (decimal n) (written ps) (41 ∷ []))) ∙ same_some _ _ e))
parts_some (inner h rs ps) p y o e =
    taken (inner h rs ps) (bracketed (line_of h rs)) p ps y o.2 refl
    (sym (first_inner h rs (written ps ++ 41 ∷ []) o.0 o.1) ∙ (ap (λ x. first (40 ∷ x)) (sym (inner_bytes h rs ps)) ∙ same_some _ _ e))

pub at_none : (ps : Parts) (x : List ℕ) → Sound ps → x ≡ written ps ++ 41 ∷ [] → parted x ≡ None → pieces ps ≡ []
at_none ps x o e n = parts_none ps o (ap parted (sym e) ∙ n)

pub at_some : (ps : Parts) (x : List ℕ) (p : Piece) (y : List ℕ) → Sound ps → x ≡ written ps ++ 41 ∷ [] → parted x ≡ Some (p, y) → Next ps p y
at_some ps x p y o e n = parts_some ps p y o (ap parted (sym e) ∙ n)

some_of : {X : Type 0} (o : Option X) → is_some o ≡ true → (x : X) × (o ≡ Some x)
some_of (Some x) e = (x, refl)
some_of None e = let z : ◌≡◌ {A = ℕ} 0 1 = cc in absurd (omega arith)

-- the head and the rest of a form that was read
pub record Taken (t inside : List ℕ) : Type 0 where
  pub tree : Tree
  pub reads : form_of t ≡ Some tree
  pub good : Good tree
  pub head : take (prefix_len letter inside) inside ≡ tree.head
  pub rest : drop (prefix_len letter inside) inside ≡ written tree.parts ++ 41 ∷ []

same_tail : (a b : ℕ) (s t : List ℕ) → a ∷ s ≡ b ∷ t → s ≡ t
same_tail a b s t e = cc

pub taken_from : (t inside : List ℕ) → is_some (form_of t) ≡ true → t ≡ 40 ∷ inside → Taken t inside
taken_from t inside e s =
    let o = some_of (form_of t) e in
    let f = o.0 in
    let w = reading_right.writes t f o.1 in
    let rest = written f.parts ++ 41 ∷ [] in
    let i : inside ≡ f.head ++ rest = same_tail 40 40 inside _ (sym s ∙ w.0) in
    let l = w.1.word.letters in
    record {
      tree = f;
      reads = o.1;
      good = w.1;
      head = ap (λ x. take (prefix_len letter x) x) i ∙ word_front f.head rest l (letter_stops f.parts []);
      rest = ap (λ x. drop (prefix_len letter x) x) i ∙ word_rest f.head rest l (letter_stops f.parts []);
    }

-- a form begins with a bracket
pub opens : (t : List ℕ) → is_some (form_of t) ≡ true → ((rest : List ℕ) → t ≡ 40 ∷ rest → ⊥) → ⊥
opens t e h =
    let o = some_of (form_of t) e in
    h _ (reading_right.writes t o.0 o.1).0
