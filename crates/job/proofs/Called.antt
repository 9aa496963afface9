-- From a form that was read to the call that it is, and back.
use Rattle.std.proofs.Common.{◌≡◌, ℕ, false, cond, eqb, ◌⊎◌, List, [], ◌∷◌, ◌++◌, map, length, Some, None, Err, codes, Option, sym, refl, ap, ◌∙◌, subst, inl, inr, append_assoc, arith}
use Rattle.std.specs.Str.{bytes_eq}
use Rattle.std.proofs.lemmas.Slice.Eq.{bytes_eq-Decides}
use Rattle.std.proofs.lemmas.Bool.{cases_Bool, cond-true, cond-false}
use Rattle.form.specs.Forms.{Parts, none, number, inner, Tree, Good, bytes_of}
use Rattle.form.specs.Putting.{numbers_of}
use Rattle.form.specs.Reading.{form_of}
use Rattle.form.specs.Viewing.{value, pieces, Shows, plain, Reads}
use Rattle.form.specs.declared.fault.Fault.{Fault}
use Rattle.form.specs.declared.fault.Fault.TheVariants.{Byte, Shape}
use Rattle.form.specs.declared.view.Part.TheVariants as part
use Rattle.form.specs.declared.view.Parts.{Parts as Shown}
use Rattle.form.specs.declared.view.Parts.TheVariants as shown
use Rattle.form.proofs.Plain.{good_plain}
use Rattle.form.proofs.Right.{reading_right, same_some}
use Rattle.job.specs.Calls.{call_tree, call_bytes, Small, call_in, CallsOnce}
use Rattle.job.specs.Rows.{of_numbers}
use Rattle.job.specs.Texts.{Unbroken}
use Rattle.job.specs.declared.call.Call.{Call}
use Rattle.job.specs.declared.call.Call.TheVariants.{Decide, Move, Drag}
use Rattle.job.proofs.Unbroken.{broken, cut_once, unbroken_plain}

-- a call's form is one that a line may hold just where its numbers have at most six digits
good_call : (c : Call) → Small c → Good (call_tree c)
good_call Decide s =
    record { word = record { some = omega arith; letters = (refl, (refl, (refl, (refl, (refl, (refl, tt)))))) }; sound = tt; deep = omega arith }
good_call Move s =
    record { word = record { some = omega arith; letters = (refl, (refl, (refl, (refl, tt)))) }; sound = tt; deep = omega arith }
good_call (Drag l w) s =
    record { word = record { some = omega arith; letters = (refl, (refl, (refl, (refl, tt)))) }; sound = (s.0, (s.1, tt)); deep = omega arith }

small_call : (c : Call) → Good (call_tree c) → Small c
small_call Decide g = tt
small_call Move g = tt
small_call (Drag l w) g = (g.sound.0, g.sound.1.0)

none_some : (c : Call) → None ≡ Some c → ⊥
none_some c e = let z : ◌≡◌ {A = ℕ} 0 1 = cc in omega arith

-- parts, from their pieces, where those are numbers
numbers_from : (ps : Parts) (ns : List ℕ) → pieces ps ≡ map value ns → ps ≡ numbers_of ns
numbers_from none [] e = refl
numbers_from none (n ∷ ns) e = let z : ◌≡◌ {A = ℕ} 0 1 = cc in absurd (omega arith)
numbers_from (number m ps) [] e = let z : ◌≡◌ {A = ℕ} 0 1 = cc in absurd (omega arith)
numbers_from (number m ps) (n ∷ ns) e =
    let k : m ≡ n = cc in
    let q : pieces ps ≡ map value ns = cc in
    ap (λ x. number x ps) k ∙ ap (number n) (numbers_from ps ns q)
numbers_from (inner h rs ps) [] e = let z : ◌≡◌ {A = ℕ} 0 1 = cc in absurd (omega arith)
numbers_from (inner h rs ps) (n ∷ ns) e = let z : ◌≡◌ {A = ℕ} 0 1 = cc in absurd (omega arith)

tree_from : (f : Tree) (h : List ℕ) (ns : List ℕ) → f.head ≡ h → pieces f.parts ≡ map value ns → f ≡ of_numbers h ns
tree_from f h ns e p = let q = numbers_from f.parts ns p in λ i. record { head = e i; parts = q i }

-- a head is the word that it was compared with, or another call was found
named : (h w : List ℕ) (x : Call) (o : Option Call) (c : Call) → cond (bytes_eq h w) (Some x) o ≡ Some c → ((h ≡ w) × (x ≡ c)) ⊎ (o ≡ Some c)
named h w x o c e =
    elim (cases_Bool (bytes_eq h w)) [
      | inl t ↦ inl ((bytes_eq-Decides h w).0 t, same_some x c (sym (cond-true _ (Some x) o t) ∙ e))
      | inr n ↦ inr (sym (cond-false _ (Some x) o n) ∙ e)
    ]

-- the call that was found in a form has that form
call_form : (f : Tree) (h : List ℕ) (s : Shown) (c : Call) → h ≡ f.head → Shows s (pieces f.parts) → call_in h s ≡ Some c → f ≡ call_tree c
call_form f h shown.Zero c eh es e =
    elim (named h (codes "decide") Decide _ c e) [
      | inl p ↦ tree_from f (codes "decide") [] (sym eh ∙ p.0) es ∙ ap call_tree p.1
      | inr r ↦ elim (named h (codes "move") Move None c r) [
        | inl p ↦ tree_from f (codes "move") [] (sym eh ∙ p.0) es ∙ ap call_tree p.1
        | inr z ↦ absurd (none_some c z)
      ]
    ]
call_form f h (shown.One p) c eh es e = absurd (none_some c e)
call_form f h (shown.Two (part.Number l) (part.Number w)) c eh es e =
    elim (named h (codes "drag") (Drag l w) None c e) [
      | inl p ↦ tree_from f (codes "drag") (l ∷ (w ∷ [])) (sym eh ∙ p.0) es ∙ ap call_tree p.1
      | inr z ↦ absurd (none_some c z)
    ]
call_form f h (shown.Two (part.Number l) (part.Form t)) c eh es e = absurd (none_some c e)
call_form f h (shown.Two (part.Form t) q) c eh es e = absurd (none_some c e)
call_form f h (shown.Three p q r) c eh es e = absurd (none_some c e)
call_form f h shown.More c eh es e = absurd (none_some c e)

-- what is shown of a call's parts
abbrev shown_of : Call → Shown
shown_of Decide = shown.Zero
shown_of Move = shown.Zero
shown_of (Drag l w) = shown.Two (part.Number l) (part.Number w)

shows_none : (s : Shown) → Shows s [] → s ≡ shown.Zero
shows_none shown.Zero e = refl
shows_none (shown.One p) e = let z : ◌≡◌ {A = ℕ} 0 1 = cc in absurd (omega arith)
shows_none (shown.Two p q) e = let z : ◌≡◌ {A = ℕ} 0 1 = cc in absurd (omega arith)
shows_none (shown.Three p q r) e = let z : ◌≡◌ {A = ℕ} 0 1 = cc in absurd (omega arith)
shows_none shown.More e = absurd (omega arith)

shows_two : (s : Shown) (l w : ℕ) → Shows s (value l ∷ (value w ∷ [])) → s ≡ shown.Two (part.Number l) (part.Number w)
shows_two shown.Zero l w e = let z : ◌≡◌ {A = ℕ} 0 1 = cc in absurd (omega arith)
shows_two (shown.One p) l w e = let z : ◌≡◌ {A = ℕ} 0 1 = cc in absurd (omega arith)
shows_two (shown.Two (part.Number m) (part.Number n)) l w e = cc
shows_two (shown.Two (part.Number m) (part.Form t)) l w e = let z : ◌≡◌ {A = ℕ} 0 1 = cc in absurd (omega arith)
shows_two (shown.Two (part.Form t) q) l w e = let z : ◌≡◌ {A = ℕ} 0 1 = cc in absurd (omega arith)
shows_two (shown.Three p q r) l w e = let z : ◌≡◌ {A = ℕ} 0 1 = cc in absurd (omega arith)
shows_two shown.More l w e = absurd (omega arith)

shown_call : (c : Call) (s : Shown) → Shows s (pieces (call_tree c).parts) → s ≡ shown_of c
shown_call Decide s e = shows_none s e
shown_call Move s e = shows_none s e
shown_call (Drag l w) s e = shows_two s l w e

found : (c : Call) → call_in (call_tree c).head (shown_of c) ≡ Some c
found Decide = refl
found Move = refl
found (Drag l w) = refl

shows_own : (c : Call) → Shows (shown_of c) (pieces (call_tree c).parts)
shows_own Decide = refl
shows_own Move = refl
shows_own (Drag l w) = refl

-- a call is found in its form
call_found : (c : Call) (f : Tree) (h : List ℕ) (s : Shown) → f ≡ call_tree c → h ≡ f.head → Shows s (pieces f.parts) → call_in h s ≡ Some c
call_found c f h s e eh es =
    let k = shown_call c s (subst (λ (x : Tree). Shows s (pieces x.parts)) e es) in
    ap (call_in h) k ∙ (ap (λ x. call_in x (shown_of c)) (eh ∙ ap (λ (x : Tree). x.head) e) ∙ found c)

-- a call line, its line feed apart
line_apart : (c : Call) (rest : List ℕ) → call_bytes c ++ rest ≡ bytes_of (call_tree c) ++ 10 ∷ rest
line_apart c rest = append_assoc (bytes_of (call_tree c)) (10 ∷ []) rest

unbroken_call : (c : Call) → Small c → Unbroken (bytes_of (call_tree c))
unbroken_call c s = unbroken_plain (bytes_of (call_tree c)) (good_plain (call_tree c) (good_call c s))

-- a text begins with at most one call line
pub calls_once : CallsOnce
calls_once c d s t sc sd e =
    let k = cut_once (bytes_of (call_tree c)) (bytes_of (call_tree d)) s t (unbroken_call c sc) (unbroken_call d sd) (sym (line_apart c s) ∙ (e ∙ line_apart d t)) in
    let f = same_some (call_tree d) (call_tree c)
    (sym (reading_right.reads (call_tree d) (good_call d sd)) ∙ (ap form_of (sym k.0) ∙ reading_right.reads (call_tree c) (good_call c sc))) in
    (same_some c d (sym (call_found c (call_tree d) _ (shown_of d) f refl (shows_own d)) ∙ found d), k.1)

-- what is not empty
pub filled : (t : List ℕ) → false ≡ eqb (length t) 0 → t ≡ [] → ⊥
filled t n e = let k = ap (λ (x : List ℕ). eqb (length x) 0) e in let z : ◌≡◌ {A = ℕ} 0 1 = cc in omega arith

-- without a line feed there is no call line
pub no_line : (t : List ℕ) → Unbroken t → (c : Call) (rest : List ℕ) → t ≡ call_bytes c ++ rest → ⊥
no_line t u c rest e = broken (bytes_of (call_tree c)) rest (subst (λ (x : List ℕ). Unbroken x) (e ∙ line_apart c rest) u)

-- the text up to its first line feed, and the rest
module _ (t l r : List ℕ) (whole : t ≡ l ++ 10 ∷ r) (u : Unbroken l) where
  line_is : (c : Call) (rest : List ℕ) → Small c → t ≡ call_bytes c ++ rest → l ≡ bytes_of (call_tree c)
  line_is c rest s e = (cut_once l (bytes_of (call_tree c)) r rest u (unbroken_call c s) (sym whole ∙ (e ∙ line_apart c rest))).0

  line_reads : (c : Call) (rest : List ℕ) → Small c → t ≡ call_bytes c ++ rest → form_of l ≡ Some (call_tree c)
  line_reads c rest s e = ap form_of (line_is c rest s e) ∙ reading_right.reads (call_tree c) (good_call c s)

  pub no_form : (f : Fault) → Reads l (Err f) → (c : Call) (rest : List ℕ) → Small c → t ≡ call_bytes c ++ rest → ⊥
  no_form Byte k c rest s e =
      let p = ap plain (line_is c rest s e) ∙ good_plain (call_tree c) (good_call c s) in
      let z : ◌≡◌ {A = ℕ} 0 1 = cc in omega arith
  no_form Shape k c rest s e =
      let p = line_reads c rest s e in
      let n = k.1 in
      let z : ◌≡◌ {A = ℕ} 0 1 = cc in omega arith

  module _ (f : Tree) (h : List ℕ) (s : Shown) (reads : form_of l ≡ Some f) (head : h ≡ f.head) (shows : Shows s (pieces f.parts)) where
    pub no_call : None ≡ call_in h s → (c : Call) (rest : List ℕ) → Small c → t ≡ call_bytes c ++ rest → ⊥
    no_call n c rest k e =
        let i = same_some f (call_tree c) (sym reads ∙ line_reads c rest k e) in
        none_some c (n ∙ call_found c f h s i head shows)

    pub a_call : (c : Call) → Some c ≡ call_in h s → (t ≡ call_bytes c ++ r) × Small c
    a_call c e =
        let i = call_form f h s c head shows (sym e) in
        let w = reading_right.writes l f reads in
        (whole ∙ (ap (λ x. x ++ 10 ∷ r) (w.0 ∙ ap bytes_of i) ∙ sym (line_apart c r)), small_call c (subst (λ (x : Tree). Good x) i w.1))
