-- Forms that a line may hold.
use Rattle.std.specs.List.{list_all}
use Rattle.std.proofs.Common.{◌≡◌, ℕ, suc, ◌<◌, ◌≤◌, Bool, true, false, ◌&&◌, leb, List, [], ◌∷◌, length, is_some, Some, None, Option, refl, arith}
use Rattle.std.specs.List.{AllByRecursion}
use Rattle.std.proofs.lemmas.Bool.{and_parts, leb-true, ltb-true}
use Rattle.form.specs.Forms.{Tree, letter, depth, Letters, Word, Sound, Good}
use Rattle.form.specs.Putting.{numbers_of}
use Rattle.ltlf.specs.Ltlf.{Ltlf}
use Rattle.ltlf.specs.Prefix.{formula, mark_below, marks_below}
use Rattle.ltlf.specs.declared.operator.Operator.{Operator}
use Rattle.ltlf.specs.declared.operator.Operator.TheVariants.{True, Mark, Not, And, Or, Next, Weak, Until, Eventually, Always}
use Rattle.ltlf.proofs.Reading.{reads_grammar}
use Rattle.task.specs.Faults.{ask, task_fault}
use Rattle.task.specs.declared.fault.Fault.{Fault as TaskFault}
use Rattle.taskform.specs.Spelling.{operators_in, over, over_two, topped, forms, task_tree, first_form}
use Rattle.taskform.specs.Words.{word_of}
use Rattle.taskform.proofs.Spelled.{task_forms}
use Rattle.job.specs.Contents.{no_fault}
use Rattle.job.specs.Rows.{task, of_numbers, tree_of}

-- letters are a word
word : (h : List ℕ) → 0 < length h → list_all letter h ≡ true → Word h
word h l e = record { some = l; letters = all h e } where
  all : (h : List ℕ) → list_all letter h ≡ true → Letters h
  all [] e = tt
  all (b ∷ h) e = let p = and_parts (letter b) (list_all letter h) e in (p.0, all h p.1)

-- a word and small numbers are a good form
pub numbers_good : (h ns : List ℕ) → 0 < length h → list_all letter h ≡ true → Sound (numbers_of ns) → Good (of_numbers h ns)
numbers_good h ns l e s = record { word = word h l e; sound = s; deep = omega (arith, flat ns) } where
  flat : (ns : List ℕ) → depth (numbers_of ns) ≡ 0
  flat [] = refl
  flat (n ∷ ns) = flat ns

-- a form whose heads are words and whose numbers are small
abbrev Wordy : Tree → Type 0
Wordy f = Word f.head × Sound f.parts

over_wordy : (h : List ℕ) (fs : List Tree) → Word h → AllByRecursion Wordy fs → AllByRecursion Wordy (over h fs)
over_wordy h [] w a = tt
over_wordy h (f ∷ fs) w a = ((w, (a.0.0, a.0.1, tt)), a.1)

both_wordy : (h : List ℕ) (fs : List Tree) → Word h → AllByRecursion Wordy fs → AllByRecursion Wordy (over_two h fs)
both_wordy h [] w a = tt
both_wordy h (f ∷ []) w a = tt
both_wordy h (f ∷ (g ∷ fs)) w a = ((w, (a.0.0, a.0.1, (a.1.0.0, a.1.0.1, tt))), a.1.1)

topped_wordy : (p : ℕ) (o : Operator) (fs : List Tree) → p ≤ 6 → mark_below p o ≡ true → AllByRecursion Wordy fs → AllByRecursion Wordy (topped o fs)
topped_wordy p True fs l e a = ((word (word_of True) (omega arith) refl, tt), a)
topped_wordy p (Mark m) fs l e a = ((word (word_of (Mark m)) (omega arith) refl, (omega (arith, ltb-true m p e), tt)), a)
topped_wordy p Not fs l e a = over_wordy (word_of Not) fs (word (word_of Not) (omega arith) refl) a
topped_wordy p And fs l e a = both_wordy (word_of And) fs (word (word_of And) (omega arith) refl) a
topped_wordy p Or fs l e a = both_wordy (word_of Or) fs (word (word_of Or) (omega arith) refl) a
topped_wordy p Next fs l e a = over_wordy (word_of Next) fs (word (word_of Next) (omega arith) refl) a
topped_wordy p Weak fs l e a = over_wordy (word_of Weak) fs (word (word_of Weak) (omega arith) refl) a
topped_wordy p Until fs l e a = both_wordy (word_of Until) fs (word (word_of Until) (omega arith) refl) a
topped_wordy p Eventually fs l e a = over_wordy (word_of Eventually) fs (word (word_of Eventually) (omega arith) refl) a
topped_wordy p Always fs l e a = over_wordy (word_of Always) fs (word (word_of Always) (omega arith) refl) a

forms_wordy : (p : ℕ) (os : List Operator) → p ≤ 6 → marks_below p os ≡ true → AllByRecursion Wordy (forms os)
forms_wordy p [] l e = tt
forms_wordy p (o ∷ os) l e =
    let q = and_parts (mark_below p o) (marks_below p os) e in topped_wordy p o (forms os) l q.0 (forms_wordy p os l q.1)

-- the form of a task without fault has its operators, and is good as a task line if it does not nest too deep
pub task_good : (p : ℕ) (os : List Operator) → no_fault (task_fault p os) ≡ true → leb (suc (depth (task_tree os).parts)) 15 ≡ true
    → (operators_in (task_tree os).head (task_tree os).parts ≡ Some os) × Good (tree_of (task (task_tree os)))
task_good p os e d =
    let a = asks _ _ _ e in
    let b = asks _ _ _ a.1 in
    let c = and_parts (leb 1 p && leb p 6) (marks_below p os) b.0 in
    let l = leb-true p 6 (and_parts (leb 1 p) (leb p 6) c.0).1 in
    let w = first (forms os) (forms_wordy p os l c.1) in (
      one (formula os) refl a.0,
      record { word = word (tree_of (task (task_tree os))).head (omega arith) refl; sound = (w.0, w.1, tt); deep = omega (arith, leb-true _ _ d) },
    ) where
      asks : (b : Bool) (f : TaskFault) (later : Option TaskFault) → no_fault (ask b f later) ≡ true → (b ≡ true) × (no_fault later ≡ true)
      asks true f later e = (refl, e)
      asks false f later e = (e, cc)

      one : (g : Option Ltlf) → formula os ≡ g → is_some g ≡ true → operators_in (task_tree os).head (task_tree os).parts ≡ Some os
      one None k y = cc
      one (Some g) k y = task_forms.reads os g ((reads_grammar os g).0 k)

      first : (fs : List Tree) → AllByRecursion Wordy fs → Wordy (first_form fs)
      first [] a = (word (word_of True) (omega arith) refl, tt)
      first (f ∷ fs) a = a.0
