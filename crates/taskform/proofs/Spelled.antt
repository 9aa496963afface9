-- A task form and its operators.
use Rattle.std.proofs.Common.{◌≡◌, ℕ, cond, List, [], ◌∷◌, ◌++◌, Some, None, codes, Option, sym, refl, ap, ◌∙◌, subst, inl, inr, append_assoc, arith}
use Rattle.std.specs.Str.{bytes_eq}
use Rattle.std.proofs.lemmas.Slice.Eq.{bytes_eq-Decides}
use Rattle.std.proofs.lemmas.List.{append-nil}
use Rattle.std.proofs.lemmas.Bool.{cond-true, cond-false, cases_Bool}
use Rattle.form.specs.Forms.{Parts, none, number, inner, Tree}
use Rattle.ltlf.specs.Grammar.{Writes, is_true, is_mark, is_not, is_and, is_or, is_next, is_weak, is_until, is_eventually, is_always}
use Rattle.ltlf.specs.Ltlf.{Ltlf}
use Rattle.ltlf.specs.declared.operator.Operator.{Operator}
use Rattle.ltlf.specs.declared.operator.Operator.TheVariants.{True, Mark, Not, And, Or, Next, Weak, Until, Eventually, Always}
use Rattle.taskform.specs.declared.sort.Sort.{Sort}
use Rattle.taskform.specs.declared.sort.Sort.TheVariants as sort
use Rattle.taskform.specs.Words.{word_of, sort_of}
use Rattle.taskform.specs.Spelling.{alone, numbered, under, under_both, before, before_both, operators_in, topped, forms, first_form, task_tree}
use Rattle.taskform.specs.Theorems.{TaskForms}

-- the word of an operator of one operand, and of two
abbrev UnaryIs : List ℕ → Operator → Type 0
UnaryIs h True = ⊥
UnaryIs h (Mark m) = ⊥
UnaryIs h Not = h ≡ word_of Not
UnaryIs h And = ⊥
UnaryIs h Or = ⊥
UnaryIs h Next = h ≡ word_of Next
UnaryIs h Weak = h ≡ word_of Weak
UnaryIs h Until = ⊥
UnaryIs h Eventually = h ≡ word_of Eventually
UnaryIs h Always = h ≡ word_of Always

abbrev BinaryIs : List ℕ → Operator → Type 0
BinaryIs h True = ⊥
BinaryIs h (Mark m) = ⊥
BinaryIs h Not = ⊥
BinaryIs h And = h ≡ word_of And
BinaryIs h Or = h ≡ word_of Or
BinaryIs h Next = ⊥
BinaryIs h Weak = ⊥
BinaryIs h Until = h ≡ word_of Until
BinaryIs h Eventually = ⊥
BinaryIs h Always = ⊥

abbrev SortIs : List ℕ → Option Sort → Type 0
SortIs h None = Unit {0}
SortIs h (Some sort.Truth) = h ≡ codes "true"
SortIs h (Some sort.Marked) = h ≡ codes "mark"
SortIs h (Some (sort.Unary o)) = UnaryIs h o
SortIs h (Some (sort.Binary o)) = BinaryIs h o

by_word : (h w : List ℕ) (x y : Option Sort) → (h ≡ w → SortIs h x) → SortIs h y → SortIs h (cond (bytes_eq h w) x y)
by_word h w x y p q =
    elim (cases_Bool (bytes_eq h w)) [
      | inl e ↦ subst (λ (z : Option Sort). SortIs h z) (sym (cond-true (bytes_eq h w) x y e)) (p ((bytes_eq-Decides h w).0 e))
      | inr e ↦ subst (λ (z : Option Sort). SortIs h z) (sym (cond-false (bytes_eq h w) x y e)) q
    ]

sort_is : (h : List ℕ) → SortIs h (sort_of h)
sort_is h =
    by_word h (codes "true") _ _ (λ e. e) (by_word h (codes "mark") _ _ (λ e. e) (by_word h (codes "not") _ _ (λ e. e)
    (by_word h (codes "and") _ _ (λ e. e) (by_word h (codes "or") _ _ (λ e. e) (by_word h (codes "next") _ _ (λ e. e)
    (by_word h (codes "weak") _ _ (λ e. e) (by_word h (codes "until") _ _ (λ e. e) (by_word h (codes "eventually") _ _ (λ e. e)
    (by_word h (codes "always") _ _ (λ e. e) tt)))))))))

-- the operators of a form stand for it, whatever follows them, and are one formula
record Spells (h : List ℕ) (ps : Parts) (os : List Operator) : Type 0 where
  shape : (zs : List Operator) → forms (os ++ zs) ≡ record { head = h; parts = ps } ∷ forms zs
  grammar : (g : Ltlf) × Writes os g

spells_as : (h : List ℕ) (ps : Parts) (os us : List Operator) → ◌≡◌ {A = Option (List Operator)} (Some os) (Some us) → Spells h ps os → Spells h ps us
spells_as h ps os us e s = let k : os ≡ us = cc in subst (λ (x : List Operator). Spells h ps x) k s

not_some : (os : List Operator) → ◌≡◌ {A = Option (List Operator)} None (Some os) → ⊥
not_some os e = let z : ◌≡◌ {A = ℕ} 0 1 = cc in omega arith

alone_spells : (h : List ℕ) (s : Option Sort) (os : List Operator) → SortIs h s → alone s ≡ Some os → Spells h none os
alone_spells h None os i e = absurd (not_some os e)
alone_spells h (Some sort.Truth) os i e =
    spells_as h none (True ∷ []) os e (record { shape = λ zs. ap (λ x. record { head = x; parts = none } ∷ forms zs) (sym i); grammar = (_, is_true) })
alone_spells h (Some sort.Marked) os i e = absurd (not_some os e)
alone_spells h (Some (sort.Unary o)) os i e = absurd (not_some os e)
alone_spells h (Some (sort.Binary o)) os i e = absurd (not_some os e)

numbered_spells : (h : List ℕ) (m : ℕ) (s : Option Sort) (os : List Operator) → SortIs h s → numbered s m ≡ Some os → Spells h (number m none) os
numbered_spells h m None os i e = absurd (not_some os e)
numbered_spells h m (Some sort.Truth) os i e = absurd (not_some os e)
numbered_spells h m (Some sort.Marked) os i e =
    spells_as h (number m none) (Mark m ∷ []) os e (record { shape = λ zs. ap (λ x. record { head = x; parts = number m none } ∷ forms zs) (sym i); grammar = (_, is_mark m) })
numbered_spells h m (Some (sort.Unary o)) os i e = absurd (not_some os e)
numbered_spells h m (Some (sort.Binary o)) os i e = absurd (not_some os e)

module _ (h g : List ℕ) (rs : Parts) (us : List Operator) (s : Spells g rs us) where
  shaped : (o : Operator) → ((fs : List Tree) → topped o (record { head = g; parts = rs } ∷ fs) ≡ record { head = word_of o; parts = inner g rs none } ∷ fs) → h ≡ word_of o
      → (zs : List Operator) → forms ((o ∷ us) ++ zs) ≡ record { head = h; parts = inner g rs none } ∷ forms zs
  shaped o t i zs = ap (topped o) (s.shape zs) ∙ (t (forms zs) ∙ ap (λ x. record { head = x; parts = inner g rs none } ∷ forms zs) (sym i))

  unary_spells : (o : Operator) → UnaryIs h o → Spells h (inner g rs none) (o ∷ us)
  unary_spells True i = absurd i
  unary_spells (Mark m) i = absurd i
  unary_spells Not i = record { shape = shaped Not (λ _. refl) i; grammar = (_, is_not s.grammar.1) }
  unary_spells And i = absurd i
  unary_spells Or i = absurd i
  unary_spells Next i = record { shape = shaped Next (λ _. refl) i; grammar = (_, is_next s.grammar.1) }
  unary_spells Weak i = record { shape = shaped Weak (λ _. refl) i; grammar = (_, is_weak s.grammar.1) }
  unary_spells Until i = absurd i
  unary_spells Eventually i = record { shape = shaped Eventually (λ _. refl) i; grammar = (_, is_eventually s.grammar.1) }
  unary_spells Always i = record { shape = shaped Always (λ _. refl) i; grammar = (_, is_always s.grammar.1) }

module _ (h g : List ℕ) (rs : Parts) (us : List Operator) (s : Spells g rs us) (k : List ℕ) (ss : Parts) (vs : List Operator) (t : Spells k ss vs) where
  shaped_two : (o : Operator)
      → ((fs : List Tree) → topped o (record { head = g; parts = rs } ∷ (record { head = k; parts = ss } ∷ fs)) ≡ record { head = word_of o; parts = inner g rs (inner k ss none) } ∷ fs)
      → h ≡ word_of o → (zs : List Operator) → forms ((o ∷ (us ++ vs)) ++ zs) ≡ record { head = h; parts = inner g rs (inner k ss none) } ∷ forms zs
  shaped_two o e i zs =
      ap (λ x. topped o (forms x)) (append_assoc us vs zs)
      ∙ (ap (topped o) (s.shape (vs ++ zs) ∙ ap (λ x. record { head = g; parts = rs } ∷ x) (t.shape zs))
      ∙ (e (forms zs) ∙ ap (λ x. record { head = x; parts = inner g rs (inner k ss none) } ∷ forms zs) (sym i)))

  binary_spells : (o : Operator) → BinaryIs h o → Spells h (inner g rs (inner k ss none)) (o ∷ (us ++ vs))
  binary_spells True i = absurd i
  binary_spells (Mark m) i = absurd i
  binary_spells Not i = absurd i
  binary_spells And i = record { shape = shaped_two And (λ _. refl) i; grammar = (_, is_and s.grammar.1 t.grammar.1) }
  binary_spells Or i = record { shape = shaped_two Or (λ _. refl) i; grammar = (_, is_or s.grammar.1 t.grammar.1) }
  binary_spells Next i = absurd i
  binary_spells Weak i = absurd i
  binary_spells Until i = record { shape = shaped_two Until (λ _. refl) i; grammar = (_, is_until s.grammar.1 t.grammar.1) }
  binary_spells Eventually i = absurd i
  binary_spells Always i = absurd i

under_spells : (h g : List ℕ) (rs : Parts) (s : Option Sort) (x : Option (List Operator)) (os : List Operator) → SortIs h s
    → ((us : List Operator) → x ≡ Some us → Spells g rs us) → under s x ≡ Some os → Spells h (inner g rs none) os
under_spells h g rs None x os i f e = absurd (not_some os e)
under_spells h g rs (Some sort.Truth) x os i f e = absurd (not_some os e)
under_spells h g rs (Some sort.Marked) x os i f e = absurd (not_some os e)
under_spells h g rs (Some (sort.Unary o)) None os i f e = absurd (not_some os e)
under_spells h g rs (Some (sort.Unary o)) (Some us) os i f e = spells_as h (inner g rs none) (o ∷ us) os e (unary_spells h g rs us (f us refl) o i)
under_spells h g rs (Some (sort.Binary o)) x os i f e = absurd (not_some os e)

both_spells : (h g : List ℕ) (rs : Parts) (k : List ℕ) (ss : Parts) (s : Option Sort) (x y : Option (List Operator)) (os : List Operator) → SortIs h s
    → ((us : List Operator) → x ≡ Some us → Spells g rs us) → ((us : List Operator) → y ≡ Some us → Spells k ss us) → under_both s x y ≡ Some os → Spells h (inner g rs (inner k ss none)) os
both_spells h g rs k ss None x y os i f j e = absurd (not_some os e)
both_spells h g rs k ss (Some sort.Truth) x y os i f j e = absurd (not_some os e)
both_spells h g rs k ss (Some sort.Marked) x y os i f j e = absurd (not_some os e)
both_spells h g rs k ss (Some (sort.Unary o)) x y os i f j e = absurd (not_some os e)
both_spells h g rs k ss (Some (sort.Binary o)) None y os i f j e = absurd (not_some os e)
both_spells h g rs k ss (Some (sort.Binary o)) (Some us) None os i f j e = absurd (not_some os e)
both_spells h g rs k ss (Some (sort.Binary o)) (Some us) (Some vs) os i f j e =
    spells_as h (inner g rs (inner k ss none)) (o ∷ (us ++ vs)) os e (binary_spells h g rs us (f us refl) k ss vs (j vs refl) o i)

spells : (h : List ℕ) (ps : Parts) (os : List Operator) → operators_in h ps ≡ Some os → Spells h ps os
spells h none os e = alone_spells h (sort_of h) os (sort_is h) e
spells h (number m none) os e = numbered_spells h m (sort_of h) os (sort_is h) e
spells h (number m (number k ps)) os e = absurd (not_some os e)
spells h (number m (inner g rs ps)) os e = absurd (not_some os e)
spells h (inner g rs none) os e = under_spells h g rs (sort_of h) (operators_in g rs) os (sort_is h) (λ us f. spells g rs us f) e
spells h (inner g rs (number m ps)) os e = absurd (not_some os e)
spells h (inner g rs (inner k ss none)) os e =
    both_spells h g rs k ss (sort_of h) (operators_in g rs) (operators_in k ss) os (sort_is h) (λ us f. spells g rs us f) (λ us f. spells k ss us f) e
spells h (inner g rs (inner k ss (number m ps))) os e = absurd (not_some os e)
spells h (inner g rs (inner k ss (inner j ts ps))) os e = absurd (not_some os e)

-- a formula in prefix order has a form
record Spelled (os : List Operator) : Type 0 where
  head : List ℕ
  parts : Parts
  are : operators_in head parts ≡ Some os

spelled : (os : List Operator) (g : Ltlf) → Writes os g → Spelled os
spelled _ _ is_true = record { head = codes "true"; parts = none; are = refl }
spelled _ _ (is_mark m) = record { head = codes "mark"; parts = number m none; are = refl }
spelled _ _ (is_not w) = let s = spelled _ _ w in record { head = codes "not"; parts = inner s.head s.parts none; are = ap (before Not) s.are }
spelled _ _ (is_and w v) = let s = spelled _ _ w in let t = spelled _ _ v in
    record {
      head = codes "and";
      parts = inner s.head s.parts (inner t.head t.parts none);
      are = ap (λ x. before_both And x (operators_in t.head t.parts)) s.are ∙ ap (before_both And (Some _)) t.are;
    }
spelled _ _ (is_or w v) = let s = spelled _ _ w in let t = spelled _ _ v in
    record {
      head = codes "or";
      parts = inner s.head s.parts (inner t.head t.parts none);
      are = ap (λ x. before_both Or x (operators_in t.head t.parts)) s.are ∙ ap (before_both Or (Some _)) t.are;
    }
spelled _ _ (is_next w) = let s = spelled _ _ w in record { head = codes "next"; parts = inner s.head s.parts none; are = ap (before Next) s.are }
spelled _ _ (is_weak w) = let s = spelled _ _ w in record { head = codes "weak"; parts = inner s.head s.parts none; are = ap (before Weak) s.are }
spelled _ _ (is_until w v) = let s = spelled _ _ w in let t = spelled _ _ v in
    record {
      head = codes "until";
      parts = inner s.head s.parts (inner t.head t.parts none);
      are = ap (λ x. before_both Until x (operators_in t.head t.parts)) s.are ∙ ap (before_both Until (Some _)) t.are;
    }
spelled _ _ (is_eventually w) = let s = spelled _ _ w in record { head = codes "eventually"; parts = inner s.head s.parts none; are = ap (before Eventually) s.are }
spelled _ _ (is_always w) = let s = spelled _ _ w in record { head = codes "always"; parts = inner s.head s.parts none; are = ap (before Always) s.are }

pub task_forms_of : (f : Tree) (os : List Operator) → operators_in f.head f.parts ≡ Some os → forms os ≡ f ∷ []
task_forms_of f os e = ap forms (sym (append-nil os)) ∙ (spells f.head f.parts os e).shape []

pub task_forms : TaskForms
task_forms =
    record {
      reads = λ os g w.
          let s = spelled os g w in
          let e : task_tree os ≡ record { head = s.head; parts = s.parts } = ap first_form (task_forms_of (record { head = s.head; parts = s.parts }) os s.are) in
          ap (λ f. operators_in f.head f.parts) e ∙ s.are;
      writes = λ f os e. let g = (spells f.head f.parts os e).grammar in (ap first_form (task_forms_of f os e), g.0, g.1);
    }

-- a formula in prefix order is spelled by exactly one form
pub one_form : (os : List Operator) (g : Ltlf) → Writes os g → forms os ≡ task_tree os ∷ []
one_form os g w =
    let s = spelled os g w in
    let e = task_forms_of (record { head = s.head; parts = s.parts }) os s.are in
    e ∙ ap (λ f. f ∷ []) (sym (ap first_form e))
