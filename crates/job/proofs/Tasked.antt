-- A task line, by what the compiler of its form answered.
use Rattle.std.proofs.Common.{◌≡◌, ℕ, true, false, List, Some, None, Ok, Err, Option, Result, sym, refl, ap, ◌∙◌, arith}
use Rattle.std.proofs.lemmas.Bool.{cond-true, cond-false}
use Rattle.chart.specs.Limits.{among}
use Rattle.form.specs.Forms.{Tree, Good, bytes_of}
use Rattle.form.specs.Reading.{form_of}
use Rattle.form.specs.Viewing.{plain}
use Rattle.form.specs.declared.fault.Fault.{Fault as FormFault}
use Rattle.form.proofs.Plain.{good_plain}
use Rattle.form.proofs.Right.{reading_right}
use Rattle.ltlf.specs.declared.operator.Operator.{Operator}
use Rattle.task.specs.Compiled.{operators_of}
use Rattle.task.specs.Faults.{task_fault}
use Rattle.task.specs.declared.compiled.Task.{Task}
use Rattle.task.specs.declared.fault.Fault.{Fault as Limits}
use Rattle.taskform.specs.Compiling.{Compiled}
use Rattle.taskform.specs.Faults.{as_limit, operators_fault, tree_fault, compile_fault}
use Rattle.taskform.specs.Spelling.{operators_in}
use Rattle.taskform.specs.declared.fault.Fault.{Fault as TaskFault}
use Rattle.taskform.specs.declared.fault.Fault.TheVariants.{Form, NotATask, Limit}
use Rattle.job.specs.declared.fault.Fault.TheVariants as fault
use Rattle.job.specs.declared.place.Place.TheVariants as at
use Rattle.job.specs.Compiling.{is_task}
use Rattle.job.specs.Rows.{task}
use Rattle.job.specs.Taking.{Draft, rank, with_task, goes, limited, tasked, taken}

-- a task line whose form is f, by the fault of its operators
record Line (d : Draft) (t : List ℕ) (f : Tree) : Type 0 where
  fault : compile_fault d.job.marks t ≡ operators_fault d.job.marks (operators_in f.head f.parts)
  reads : form_of t ≡ Some f

line : (d : Draft) (t : List ℕ) (f : Tree) → Good f → t ≡ bytes_of f → Line d t f
line d t f g e =
    let r = ap form_of e ∙ reading_right.reads f g in
    record { fault = cond-true (plain t) _ _ (ap plain e ∙ good_plain f g) ∙ ap (tree_fault d.job.marks) r; reads = r }

not_some : {X : Type 0} (x : X) → ◌≡◌ {A = Option X} None (Some x) → ⊥
not_some x e = let z : ◌≡◌ {A = ℕ} 0 1 = cc in omega arith

no_form : (p : ℕ) (o : Option (List Operator)) (f : FormFault) → operators_fault p o ≡ Some (Form f) → ⊥
no_form p None f e = let z : ◌≡◌ {A = ℕ} 0 1 = cc in omega arith
no_form p (Some os) f e = by (task_fault p os) e where
  by : (y : Option Limits) → as_limit y ≡ Some (Form f) → ⊥
  by None k = not_some _ k
  by (Some l) k = let z : ◌≡◌ {A = ℕ} 0 1 = cc in omega arith

-- a form that is no task form
none_refused : (d : Draft) (o : Option (List Operator)) → operators_fault d.job.marks o ≡ Some NotATask → tasked d o ≡ Err (fault.Task NotATask)
none_refused d None e = refl
none_refused d (Some os) e = absurd (by (task_fault d.job.marks os) e) where
  by : (y : Option Limits) → as_limit y ≡ Some NotATask → ⊥
  by None k = not_some _ k
  by (Some l) k = let z : ◌≡◌ {A = ℕ} 0 1 = cc in omega arith

-- a task form at a place where none may stand
misplaced : (d : Draft) (o : Option (List Operator)) → (operators_fault d.job.marks o ≡ Some NotATask → ⊥) → among 3 5 (rank d.place) ≡ false → tasked d o ≡ Err fault.OutOfPlace
misplaced d None n b = absurd (n refl)
misplaced d (Some os) n b = cond-false (among 3 5 (rank d.place)) _ _ b

-- a task form that breaks a limit
limit_refused : (d : Draft) (o : Option (List Operator)) (l : Limits) → operators_fault d.job.marks o ≡ Some (Limit l) → among 3 5 (rank d.place) ≡ true → tasked d o ≡ Err (fault.Task (Limit l))
limit_refused d None l e b = let z : ◌≡◌ {A = ℕ} 0 1 = cc in absurd (omega arith)
limit_refused d (Some os) l e b =
    cond-true (among 3 5 (rank d.place)) _ _ b ∙ ap (λ x. limited x (goes at.Start (with_task os d.job))) (by (task_fault d.job.marks os) e) where
      by : (y : Option Limits) → as_limit y ≡ Some (Limit l) → y ≡ Some l
      by None k = absurd (not_some _ k)
      by (Some m) k = let i : m ≡ l = cc in ap Some i

module _ (d : Draft) (t : List ℕ) (f : Tree) (g : Good f) (e : t ≡ bytes_of f) where
  -- the compiler's answer says whether the form is a task form
  is_no : (r : Result Task TaskFault) → Compiled d.job.marks t r → is_task r ≡ true → operators_fault d.job.marks (operators_in f.head f.parts) ≡ Some NotATask → ⊥
  is_no (Ok x) c i k = not_some _ (sym c.faultless ∙ ((line d t f g e).fault ∙ k))
  is_no (Err (Form x)) c i k = let z : ◌≡◌ {A = ℕ} 0 1 = (let j : ◌≡◌ {A = Option TaskFault} (Some (Form x)) (Some NotATask) = sym c ∙ ((line d t f g e).fault ∙ k) in cc) in omega arith
  is_no (Err NotATask) c i k = let z : ◌≡◌ {A = ℕ} 0 1 = cc in omega arith
  is_no (Err (Limit x)) c i k = let z : ◌≡◌ {A = ℕ} 0 1 = (let j : ◌≡◌ {A = Option TaskFault} (Some (Limit x)) (Some NotATask) = sym c ∙ ((line d t f g e).fault ∙ k) in cc) in omega arith

  pub task_misplaced : (r : Result Task TaskFault) → Compiled d.job.marks t r → is_task r ≡ true → among 3 5 (rank d.place) ≡ false → taken d (task f) ≡ Err fault.OutOfPlace
  task_misplaced r c i b = misplaced d (operators_in f.head f.parts) (is_no r c i) b

  pub task_refused : (x : TaskFault) → Compiled d.job.marks t (Err x) → (is_task (Err x) ≡ true → among 3 5 (rank d.place) ≡ true) → taken d (task f) ≡ Err (fault.Task x)
  task_refused (Form x) c b = absurd (no_form d.job.marks (operators_in f.head f.parts) x (sym (line d t f g e).fault ∙ c))
  task_refused NotATask c b = none_refused d (operators_in f.head f.parts) (sym (line d t f g e).fault ∙ c)
  task_refused (Limit x) c b = limit_refused d (operators_in f.head f.parts) x (sym (line d t f g e).fault ∙ c) (b refl)

  pub task_taken : (x : Task) → Compiled d.job.marks t (Ok x) → among 3 5 (rank d.place) ≡ true → taken d (task f) ≡ goes at.Start (with_task (operators_of x) d.job)
  task_taken x c b =
      let same : c.tree ≡ f = same_some _ _ (sym (ap form_of c.bytes ∙ reading_right.reads c.tree c.good) ∙ (line d t f g e).reads) in
      let k : operators_in f.head f.parts ≡ Some (operators_of x) = ap (λ h. operators_in h.head h.parts) (sym same) ∙ c.operators in
      let z : operators_fault d.job.marks (Some (operators_of x)) ≡ None = ap (operators_fault d.job.marks) (sym k) ∙ (sym (line d t f g e).fault ∙ c.faultless) in
      ap (tasked d) k ∙ (cond-true (among 3 5 (rank d.place)) _ _ b ∙ ap (λ y. limited y (goes at.Start (with_task (operators_of x) d.job))) (none (task_fault d.job.marks (operators_of x)) z)) where
        none : (y : Option Limits) → as_limit y ≡ None → y ≡ None
        none None k = refl
        none (Some l) k = absurd (not_some _ (sym k))

        same_some : (x y : Tree) → ◌≡◌ {A = Option Tree} (Some x) (Some y) → x ≡ y
        same_some x y e = cc
