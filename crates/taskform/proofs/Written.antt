-- The bytes of a form, from its operators.
use Rattle.std.proofs.Common.{◌≡◌, ℕ, List, [], ◌∷◌, ◌++◌, sym, refl, ap, ◌∙◌, subst, append_assoc, arith}
use Rattle.std.proofs.lemmas.List.{append-nil}
use Rattle.form.specs.Forms.{none, inner, Tree, bytes_of, written}
use Rattle.ltlf.specs.Operators.{operands}
use Rattle.ltlf.specs.declared.operator.Operator.{Operator}
use Rattle.ltlf.specs.declared.operator.Operator.TheVariants.{True, Mark, Not, And, Or, Next, Weak, Until, Eventually, Always}
use Rattle.taskform.specs.Spelling.{leaf_parts, over, over_two, topped}
use Rattle.taskform.specs.Words.{word_of}

-- an operator by its operands
abbrev Tops : ℕ → Operator → List Tree → Type 0
Tops n o fs =
    (n ≡ 0 → topped o fs ≡ record { head = word_of o; parts = leaf_parts o } ∷ fs)
    × (n ≡ 1 → (topped o fs ≡ over (word_of o) fs) × (leaf_parts o ≡ none))
    × ((n ≡ 0 → ⊥) → (n ≡ 1 → ⊥) → (topped o fs ≡ over_two (word_of o) fs) × (leaf_parts o ≡ none))

tops_leaf : (o : Operator) (fs : List Tree) → topped o fs ≡ record { head = word_of o; parts = leaf_parts o } ∷ fs → Tops 0 o fs
tops_leaf o fs e = ((λ _. e), (λ k. absurd (omega arith)), (λ k _. absurd (k refl)))

tops_one : (o : Operator) (fs : List Tree) → topped o fs ≡ over (word_of o) fs → leaf_parts o ≡ none → Tops 1 o fs
tops_one o fs e l = ((λ k. absurd (omega arith)), (λ _. (e, l)), (λ _ k. absurd (k refl)))

tops_two : (o : Operator) (fs : List Tree) → topped o fs ≡ over_two (word_of o) fs → leaf_parts o ≡ none → Tops 2 o fs
tops_two o fs e l = ((λ k. absurd (omega arith)), (λ k. absurd (omega arith)), (λ _ _. (e, l)))

tops : (o : Operator) (fs : List Tree) → Tops (operands o) o fs
tops True fs = tops_leaf True fs refl
tops (Mark m) fs = tops_leaf (Mark m) fs refl
tops Not fs = tops_one Not fs refl refl
tops And fs = tops_two And fs refl refl
tops Or fs = tops_two Or fs refl refl
tops Next fs = tops_one Next fs refl refl
tops Weak fs = tops_one Weak fs refl refl
tops Until fs = tops_two Until fs refl refl
tops Eventually fs = tops_one Eventually fs refl refl
tops Always fs = tops_one Always fs refl refl

-- what stands under an operator
record Over (h : List ℕ) (gs : List Tree) (f : Tree) (fs : List Tree) : Type 0 where
  pub operand : Tree
  pub rest : gs ≡ operand ∷ fs
  pub whole : f ≡ record { head = h; parts = inner operand.head operand.parts none }

over_is : (h : List ℕ) (gs : List Tree) (f : Tree) (fs : List Tree) → over h gs ≡ f ∷ fs → Over h gs f fs
over_is h [] f fs e = let z : ◌≡◌ {A = ℕ} 0 1 = cc in absurd (omega arith)
over_is h (g ∷ gs) f fs e =
    let k : record { head = h; parts = inner g.head g.parts none } ≡ f = cc in
    let j : gs ≡ fs = cc in
    record { operand = g; rest = ap (λ x. g ∷ x) j; whole = sym k }

record OverTwo (h : List ℕ) (gs : List Tree) (f : Tree) (fs : List Tree) : Type 0 where
  pub left : Tree
  pub right : Tree
  pub rest : gs ≡ left ∷ (right ∷ fs)
  pub whole : f ≡ record { head = h; parts = inner left.head left.parts (inner right.head right.parts none) }

over_two_is : (h : List ℕ) (gs : List Tree) (f : Tree) (fs : List Tree) → over_two h gs ≡ f ∷ fs → OverTwo h gs f fs
over_two_is h [] f fs e = let z : ◌≡◌ {A = ℕ} 0 1 = cc in absurd (omega arith)
over_two_is h (g ∷ []) f fs e = let z : ◌≡◌ {A = ℕ} 0 1 = cc in absurd (omega arith)
over_two_is h (g ∷ (k ∷ gs)) f fs e =
    let i : record { head = h; parts = inner g.head g.parts (inner k.head k.parts none) } ≡ f = cc in
    let j : gs ≡ fs = cc in
    record { left = g; right = k; rest = ap (λ x. g ∷ (k ∷ x)) j; whole = sym i }

-- a form's bytes, piece by piece
one_pieces : (w x z : List ℕ) → (((w ++ 32 ∷ []) ++ x) ++ z) ≡ w ++ (32 ∷ (x ++ z))
one_pieces w x z = append_assoc (w ++ 32 ∷ []) x z ∙ append_assoc w (32 ∷ []) (x ++ z)

two_pieces : (w h p y z : List ℕ) → (((((w ++ 32 ∷ []) ++ (40 ∷ h ++ (p ++ 41 ∷ []))) ++ 32 ∷ []) ++ y) ++ z) ≡ w ++ (32 ∷ 40 ∷ ((h ++ (p ++ 41 ∷ (32 ∷ y))) ++ z))
two_pieces w h p y z =
    one_pieces ((w ++ 32 ∷ []) ++ (40 ∷ h ++ (p ++ 41 ∷ []))) y z
    ∙ (one_pieces w (40 ∷ h ++ (p ++ 41 ∷ [])) (32 ∷ (y ++ z))
    ∙ ap (λ v. w ++ (32 ∷ 40 ∷ v)) (append_assoc h (p ++ 41 ∷ []) (32 ∷ (y ++ z))
    ∙ (ap (λ v. h ++ v) (append_assoc p (41 ∷ []) (32 ∷ (y ++ z)) ∙ sym (append_assoc p (41 ∷ (32 ∷ y)) z))
    ∙ sym (append_assoc h (p ++ 41 ∷ (32 ∷ y)) z))))

-- what was written before the operands
abbrev pub begun : Operator → List ℕ
begun o = ((40 ∷ []) ++ word_of o) ++ written (leaf_parts o)

begun_bare : (o : Operator) → leaf_parts o ≡ none → begun o ≡ 40 ∷ word_of o
begun_bare o e = ap (λ x. (40 ∷ word_of o) ++ written x) e ∙ append-nil (40 ∷ word_of o)

module _ (o : Operator) (n : ℕ) (e : n ≡ operands o) (gs : List Tree) (f : Tree) (fs : List Tree) (k : topped o gs ≡ f ∷ fs) where
  tops_as : Tops n o gs
  tops_as = subst (λ (x : ℕ). Tops x o gs) (sym e) (tops o gs)

  -- no operands
  pub leaf_bytes : n ≡ 0 → (begun o ++ 41 ∷ [] ≡ bytes_of f) × (gs ≡ fs)
  leaf_bytes z =
      let t : record { head = word_of o; parts = leaf_parts o } ∷ gs ≡ f ∷ fs = sym (tops_as.0 z) ∙ k in
      let i : record { head = word_of o; parts = leaf_parts o } ≡ f = cc in
      let j : gs ≡ fs = cc in
      (append_assoc (40 ∷ word_of o) (written (leaf_parts o)) (41 ∷ []) ∙ ap bytes_of i, j)

  -- one
  pub record One : Type 0 where
    pub operand : Tree
    pub rest : gs ≡ operand ∷ fs
    pub bytes : ((begun o ++ 32 ∷ []) ++ bytes_of operand) ++ 41 ∷ [] ≡ bytes_of f

  pub one_bytes : n ≡ 1 → One
  one_bytes z =
      let t = tops_as.1 z in
      let u = over_is (word_of o) gs f fs (sym t.0 ∙ k) in
      let g = u.operand in
      let b : (((40 ∷ word_of o) ++ 32 ∷ []) ++ bytes_of g) ++ 41 ∷ [] ≡ bytes_of (record { head = word_of o; parts = inner g.head g.parts none }) =
      one_pieces (40 ∷ word_of o) (bytes_of g) (41 ∷ []) in
      record {
        operand = g;
        rest = u.rest;
        bytes = ap (λ x. ((x ++ 32 ∷ []) ++ bytes_of g) ++ 41 ∷ []) (begun_bare o t.1) ∙ (b ∙ ap bytes_of (sym u.whole));
      }

  -- two
  pub record Two : Type 0 where
    pub left : Tree
    pub right : Tree
    pub rest : gs ≡ left ∷ (right ∷ fs)
    pub bytes : ((((begun o ++ 32 ∷ []) ++ bytes_of left) ++ 32 ∷ []) ++ bytes_of right) ++ 41 ∷ [] ≡ bytes_of f

  pub two_bytes : (n ≡ 0 → ⊥) → (n ≡ 1 → ⊥) → Two
  two_bytes y z =
      let t = tops_as.2 y z in
      let u = over_two_is (word_of o) gs f fs (sym t.0 ∙ k) in
      let g = u.left in
      let j = u.right in
      let b : (((((40 ∷ word_of o) ++ 32 ∷ []) ++ bytes_of g) ++ 32 ∷ []) ++ bytes_of j) ++ 41 ∷ []
      ≡ bytes_of (record { head = word_of o; parts = inner g.head g.parts (inner j.head j.parts none) }) =
      two_pieces (40 ∷ word_of o) g.head (written g.parts) (bytes_of j) (41 ∷ []) in
      record {
        left = g;
        right = j;
        rest = u.rest;
        bytes = ap (λ x. ((((x ++ 32 ∷ []) ++ bytes_of g) ++ 32 ∷ []) ++ bytes_of j) ++ 41 ∷ []) (begun_bare o t.1) ∙ (b ∙ ap bytes_of (sym u.whole));
      }

-- where no operator is left there is no form
pub no_forms : (f : Tree) (fs : List Tree) → ◌≡◌ {A = List Tree} [] (f ∷ fs) → ⊥
no_forms f fs e = let z : ◌≡◌ {A = ℕ} 0 1 = cc in omega arith
