-- What is kept of the operators of a task form while it is read.
use Rattle.std.specs.Prelude.{◌≡◌, ℕ, suc, ◌≤◌, min, max, List, [], ◌∷◌, ◌++◌, length, take}
use Rattle.form.specs.Forms.{Parts, written, Word, Sound}
use Rattle.ltlf.specs.declared.operator.Operator.{Operator}
use Rattle.ltlf.specs.declared.operator.Operator.TheVariants.{True, Mark, Not, And, Or, Next, Weak, Until, Eventually, Always}
use Rattle.taskform.specs.declared.gathered.Gathered.{Gathered}

-- how many marks an operator needs: one more than its mark's number
abbrev pub marks_for : Operator → ℕ
marks_for True = 0
marks_for (Mark m) = suc m
marks_for Not = 0
marks_for And = 0
marks_for Or = 0
marks_for Next = 0
marks_for Weak = 0
marks_for Until = 0
marks_for Eventually = 0
marks_for Always = 0

abbrev pub marks_in : List Operator → ℕ
marks_in [] = 0
marks_in (o ∷ os) = max (marks_for o) (marks_in os)

-- the first 64 operators are kept as they are, if no mark is past 255; how many there are, or the greatest word; how many
-- marks they need
pub record Holds (os : List Operator) (g : Gathered) : Type 0 where
  pub long : length g.operators ≡ 64
  pub count : g.count ≡ min (length os) 18446744073709551615
  pub marks : g.marks ≡ marks_in os
  pub kept : marks_in os ≤ 256 → take g.count g.operators ≡ take 64 os

-- the text, after an opening bracket, of a form with this head and these parts, and what follows it
pub record Spelt (h : List ℕ) (ps : Parts) (after text : List ℕ) : Type 0 where
  pub word : Word h
  pub sound : Sound ps
  pub whole : text ≡ h ++ (written ps ++ 41 ∷ after)
