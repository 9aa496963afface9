-- A line and its bytes.
use Rattle.std.proofs.Common.{◌≡◌, ℕ, Bool, true, false, cond, leb, List, [], ◌∷◌, Some, None, Ok, Err, codes, Option, sym, refl, ap, ◌∙◌, subst, arith}
use Rattle.std.specs.Option.{option_and_then}
use Rattle.std.specs.Str.{bytes_eq}
use Rattle.std.proofs.lemmas.Slice.Eq.{bytes_eq-Decides}
use Rattle.std.proofs.lemmas.Bool.{cond-true, cond_both, and_parts, leb-true}
use Rattle.form.specs.Forms.{Parts, none, number, inner, Tree, bytes_of, Good}
use Rattle.form.specs.Reading.{form_of}
use Rattle.form.specs.Viewing.{plain, printed}
use Rattle.form.proofs.Right.{reading_right}
use Rattle.form.proofs.Plain.{good_plain}
use Rattle.job.specs.declared.fault.Fault.{Fault}
use Rattle.job.specs.declared.line.Head.{Head}
use Rattle.job.specs.declared.line.Head.TheVariants as head
use Rattle.job.specs.Rows.{Row, version, marks, stations, label, leg, boring, zone, task, start, lookahead, of_numbers, tree_of, head_of, one, two, three, single, row_in, known, formed, asked}
use Rattle.job.specs.Texts.{Unbroken}

-- printed bytes have no line feed
unbroken_plain : (t : List ℕ) → plain t ≡ true → Unbroken t
unbroken_plain [] p = tt
unbroken_plain (b ∷ t) p =
    let q = both (printed b) p in
    let r = and_parts (leb 32 b) (leb b 126) q.0 in
    ((λ e. omega (arith, leb-true 32 b r.0)), unbroken_plain t q.1) where
      both : (x : Bool) → cond x (plain t) false ≡ true → (x ≡ true) × (plain t ≡ true)
      both true e = (refl, e)
      both false e = (e, cc)

pub unbroken_row : (r : Row) → Good (tree_of r) → Unbroken (bytes_of (tree_of r))
unbroken_row r g = unbroken_plain (bytes_of (tree_of r)) (good_plain (tree_of r) g)

-- a line's form is known as that line
known_row : (r : Row) → known (option_and_then (λ w. row_in w (tree_of r).parts) (head_of (tree_of r).head)) ≡ Ok r
known_row (version n) = refl
known_row (marks n) = refl
known_row (stations n) = refl
known_row (label s a) = refl
known_row (leg l) = refl
known_row (boring n d u) = refl
known_row (zone z) = refl
known_row (task f) = refl
known_row (start n) = refl
known_row (lookahead n) = refl

-- a line's bytes are read as that line
pub asked_row : (r : Row) → Good (tree_of r) → asked (bytes_of (tree_of r)) ≡ Ok r
asked_row r g =
    cond-true (plain (bytes_of (tree_of r))) _ _ (good_plain (tree_of r) g) ∙ (ap formed (reading_right.reads (tree_of r) g) ∙ known_row r)

-- the word that a head stands for
abbrev HeadIs : List ℕ → Option Head → Type 0
HeadIs h None = Unit {0}
HeadIs h (Some head.Version) = h ≡ codes "job"
HeadIs h (Some head.Marks) = h ≡ codes "marks"
HeadIs h (Some head.Stations) = h ≡ codes "stations"
HeadIs h (Some head.Label) = h ≡ codes "label"
HeadIs h (Some head.Leg) = h ≡ codes "leg"
HeadIs h (Some head.Bore) = h ≡ codes "bore"
HeadIs h (Some head.Zone) = h ≡ codes "zone"
HeadIs h (Some head.Task) = h ≡ codes "task"
HeadIs h (Some head.Start) = h ≡ codes "start"
HeadIs h (Some head.Lookahead) = h ≡ codes "lookahead"

head_is : (h : List ℕ) → HeadIs h (head_of h)
head_is h =
    by (codes "leg") _ _ (λ e. e) (by (codes "label") _ _ (λ e. e) (by (codes "zone") _ _ (λ e. e) (by (codes "job") _ _ (λ e. e)
    (by (codes "marks") _ _ (λ e. e) (by (codes "stations") _ _ (λ e. e) (by (codes "bore") _ _ (λ e. e) (by (codes "task") _ _ (λ e. e)
    (by (codes "start") _ _ (λ e. e) (by (codes "lookahead") _ _ (λ e. e) tt))))))))) where
      by : (w : List ℕ) (x y : Option Head) → (h ≡ w → HeadIs h x) → HeadIs h y → HeadIs h (cond (bytes_eq h w) x y)
      by w x y p q = cond_both (bytes_eq h w) x y (HeadIs h) (λ e. p ((bytes_eq-Decides h w).0 e)) (λ _. q)

-- parts that are known as a line, under its word, are those of its form
module _ (h w : List ℕ) (i : h ≡ w) (r : Row) where
  under : (ps : Parts) (s : Row) → tree_of s ≡ record { head = w; parts = ps } → ◌≡◌ {A = Option Row} (Some s) (Some r) → record { head = h; parts = ps } ≡ tree_of r
  under ps s k e = let q : s ≡ r = cc in ap (λ x. record { head = x; parts = ps }) i ∙ (sym k ∙ ap tree_of q)

  one_came : (f : ℕ → Row) (ps : Parts) → ((a : ℕ) → tree_of (f a) ≡ of_numbers w (a ∷ [])) → one f ps ≡ Some r → record { head = h; parts = ps } ≡ tree_of r
  one_came f none k e = cc
  one_came f (number a none) k e = under (number a none) (f a) (k a) e
  one_came f (number a (number b ps)) k e = cc
  one_came f (number a (inner g rs ps)) k e = cc
  one_came f (inner g rs ps) k e = cc

  two_came : (f : ℕ → ℕ → Row) (ps : Parts) → ((a b : ℕ) → tree_of (f a b) ≡ of_numbers w (a ∷ (b ∷ []))) → two f ps ≡ Some r
      → record { head = h; parts = ps } ≡ tree_of r
  two_came f none k e = cc
  two_came f (number a none) k e = cc
  two_came f (number a (number b none)) k e = under (number a (number b none)) (f a b) (k a b) e
  two_came f (number a (number b (number c ps))) k e = cc
  two_came f (number a (number b (inner g rs ps))) k e = cc
  two_came f (number a (inner g rs ps)) k e = cc
  two_came f (inner g rs ps) k e = cc

  three_came : (f : ℕ → ℕ → ℕ → Row) (ps : Parts) → ((a b c : ℕ) → tree_of (f a b c) ≡ of_numbers w (a ∷ (b ∷ (c ∷ [])))) → three f ps ≡ Some r
      → record { head = h; parts = ps } ≡ tree_of r
  three_came f none k e = cc
  three_came f (number a none) k e = cc
  three_came f (number a (number b none)) k e = cc
  three_came f (number a (number b (number c none))) k e = under (number a (number b (number c none))) (f a b c) (k a b c) e
  three_came f (number a (number b (number c (number d ps)))) k e = cc
  three_came f (number a (number b (number c (inner g rs ps)))) k e = cc
  three_came f (number a (number b (inner g rs ps))) k e = cc
  three_came f (number a (inner g rs ps)) k e = cc
  three_came f (inner g rs ps) k e = cc

  single_came : (f : Tree → Row) (ps : Parts) → ((t : Tree) → tree_of (f t) ≡ record { head = w; parts = inner t.head t.parts none }) → single f ps ≡ Some r
      → record { head = h; parts = ps } ≡ tree_of r
  single_came f none k e = cc
  single_came f (number a ps) k e = cc
  single_came f (inner g rs none) k e = under (inner g rs none) (f (record { head = g; parts = rs })) (k (record { head = g; parts = rs })) e
  single_came f (inner g rs (number a ps)) k e = cc
  single_came f (inner g rs (inner k' ss ps)) k e = cc

-- a form that is known as a line is that line's form
row_came : (h : List ℕ) (w : Head) (ps : Parts) (r : Row) → HeadIs h (Some w) → row_in w ps ≡ Some r → record { head = h; parts = ps } ≡ tree_of r
row_came h head.Version ps r i e = one_came h _ i r version ps (λ a. refl) e
row_came h head.Marks ps r i e = one_came h _ i r marks ps (λ a. refl) e
row_came h head.Stations ps r i e = one_came h _ i r stations ps (λ a. refl) e
row_came h head.Label ps r i e = two_came h _ i r label ps (λ a b. refl) e
row_came h head.Leg ps r i e = three_came h _ i r (λ s t w. leg (record { from = s; to = t; seconds = w })) ps (λ a b c. refl) e
row_came h head.Bore ps r i e = three_came h _ i r boring ps (λ a b c. refl) e
row_came h head.Zone ps r i e = three_came h _ i r (λ a b m. zone (record { first = a; last = b; mark = m })) ps (λ a b c. refl) e
row_came h head.Task ps r i e = single_came h _ i r task ps (λ t. refl) e
row_came h head.Start ps r i e = one_came h _ i r start ps (λ a. refl) e
row_came h head.Lookahead ps r i e = one_came h _ i r lookahead ps (λ a. refl) e

-- what is read as a line is that line's bytes
pub asked_came : (t : List ℕ) (r : Row) → asked t ≡ Ok r → (t ≡ bytes_of (tree_of r)) × Good (tree_of r)
asked_came t r e = by (plain t) (form_of t) _ refl e where
  under_head : (h : List ℕ) (d : Option Head) (ps : Parts) → HeadIs h d → option_and_then (λ w. row_in w ps) d ≡ Some r
      → record { head = h; parts = ps } ≡ tree_of r
  under_head h None ps i k = cc
  under_head h (Some w) ps i k = row_came h w ps r i k

  found : (f : Tree) (o : Option Row) → option_and_then (λ w. row_in w f.parts) (head_of f.head) ≡ o → known o ≡ Ok r → f ≡ tree_of r
  found f None k e = cc
  found f (Some s) k e = under_head f.head (head_of f.head) f.parts (head_is f.head) (let q : s ≡ r = cc in k ∙ ap Some q)

  by : (b : Bool) (o : Option Tree) (x : Fault) → form_of t ≡ o → cond b (formed o) (Err x) ≡ Ok r → (t ≡ bytes_of (tree_of r)) × Good (tree_of r)
  by false o x k e = let z : ◌≡◌ {A = ℕ} 0 1 = cc in absurd (omega arith)
  by true None x k e = let z : ◌≡◌ {A = ℕ} 0 1 = cc in absurd (omega arith)
  by true (Some f) x k e =
      let q = found f (option_and_then (λ w. row_in w f.parts) (head_of f.head)) refl e in
      let w = reading_right.writes t f k in
      (w.0 ∙ ap bytes_of q, subst Good q w.1)
