-- The questions of a task form, by what its reader found.
use Rattle.std.proofs.Common.{◌≡◌, ℕ, Bool, true, false, cond, List, [], ◌∷◌, is_some, Some, None, Ok, Err, Option, Result, sym, refl, ap, ◌∙◌, arith}
use Rattle.std.proofs.lemmas.Bool.{cond-true}
use Rattle.form.specs.Checking.{checked}
use Rattle.form.specs.Forms.{Tree, Good, bytes_of}
use Rattle.form.specs.Reading.{form_of}
use Rattle.form.specs.Viewing.{plain}
use Rattle.form.specs.declared.fault.Fault.{Fault as FormFault}
use Rattle.form.specs.declared.fault.Fault.TheVariants.{Byte, Shape}
use Rattle.form.proofs.Right.{reading_right}
use Rattle.ltlf.specs.Prefix.{formula}
use Rattle.ltlf.specs.declared.operator.Operator.{Operator}
use Rattle.ltlf.proofs.Reading.{reads_grammar}
use Rattle.task.specs.Faults.{task_fault}
use Rattle.taskform.specs.declared.fault.Fault.TheVariants.{Form, NotATask}
use Rattle.taskform.specs.Faults.{as_limit, operators_fault, tree_fault, compile_fault}
use Rattle.taskform.specs.Gathering.{Spelt}
use Rattle.taskform.specs.Spelling.{operators_in}
use Rattle.taskform.proofs.Spelled.{task_forms}

not_ok : {X Y : Type 0} (x : X) (y : Y) → ◌≡◌ {A = Result X Y} (Ok x) (Err y) → ⊥
not_ok x y e = let z : ◌≡◌ {A = ℕ} 0 1 = cc in omega arith

-- bytes that are no form
pub unformed : (p : ℕ) (t : List ℕ) (f : FormFault) → Err f ≡ checked t → compile_fault p t ≡ Some (Form f)
unformed p t f e = by (plain t) (form_of t) e where
  by : (b : Bool) (o : Option Tree) → Err f ≡ cond b (cond (is_some o) (Ok (tt {0})) (Err Shape)) (Err Byte) → cond b (tree_fault p o) (Some (Form Byte)) ≡ Some (Form f)
  by true None e = let k : Shape ≡ f = cc in ap (λ x. Some (Form x)) k
  by true (Some o) e = absurd (not_ok _ _ (sym e))
  by false o e = let k : Byte ≡ f = cc in ap (λ x. Some (Form x)) k

-- bytes that are a form
pub record Formed (t : List ℕ) : Type 0 where
  pub tree : Tree
  pub fault : (p : ℕ) → compile_fault p t ≡ operators_fault p (operators_in tree.head tree.parts)
  pub good : Good tree
  pub bytes : t ≡ bytes_of tree

pub formed : (t : List ℕ) → Ok (tt {0}) ≡ checked t → Formed t
formed t e = by (plain t) (form_of t) refl refl e where
  by : (b : Bool) (o : Option Tree) → plain t ≡ b → form_of t ≡ o → Ok (tt {0}) ≡ cond b (cond (is_some o) (Ok (tt {0})) (Err Shape)) (Err Byte) → Formed t
  by true None p r e = absurd (not_ok _ _ e)
  by true (Some f) p r e =
      let w = reading_right.writes t f r in
      record { tree = f; fault = λ n. cond-true (plain t) (tree_fault n (form_of t)) _ p ∙ ap (tree_fault n) r; good = w.1; bytes = w.0 }
  by false o p r e = absurd (not_ok _ _ e)

module _ (t : List ℕ) (f : Formed t) where
  pub inside_spelt : (r : List ℕ) → t ≡ 40 ∷ r → Spelt f.tree.head f.tree.parts [] r
  inside_spelt r e =
      let k = sym e ∙ f.bytes in
      record { word = f.good.word; sound = f.good.sound; whole = let j : r ≡ _ = cc in j }

  pub no_task : (p : ℕ) → operators_in f.tree.head f.tree.parts ≡ None → compile_fault p t ≡ Some NotATask
  no_task p e = f.fault p ∙ ap (operators_fault p) e

  pub some_task : (p : ℕ) (os : List Operator) → operators_in f.tree.head f.tree.parts ≡ Some os → compile_fault p t ≡ as_limit (task_fault p os)
  some_task p os e = f.fault p ∙ ap (operators_fault p) e

  pub unopened : ((r : List ℕ) → t ≡ 40 ∷ r → ⊥) → ⊥
  unopened n = n _ f.bytes

-- the operators of a task form are one formula
pub one_formula : (h : Tree) (os : List Operator) → operators_in h.head h.parts ≡ Some os → is_some (formula os) ≡ true
one_formula h os e = let w = task_forms.writes h os e in ap is_some ((reads_grammar os w.1).1 w.2)
