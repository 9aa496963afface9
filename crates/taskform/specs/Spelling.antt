-- Task forms and their operators.
use Rattle.std.specs.Prelude.{ℕ, List, [], ◌∷◌, ◌++◌, Some, None, codes, Option}
use Rattle.form.specs.Forms.{Parts, none, number, inner, Tree}
use Rattle.ltlf.specs.declared.operator.Operator.{Operator}
use Rattle.ltlf.specs.declared.operator.Operator.TheVariants.{True, Mark, Not, And, Or, Next, Weak, Until, Eventually, Always}
use Rattle.taskform.specs.declared.sort.Sort.{Sort}
use Rattle.taskform.specs.declared.sort.Sort.TheVariants as sort
use Rattle.taskform.specs.Words.{word_of, sort_of}

-- the operators of a word alone: `true`
abbrev pub alone : Option Sort → Option (List Operator)
alone None = None
alone (Some sort.Truth) = Some (True ∷ [])
alone (Some sort.Marked) = None
alone (Some (sort.Unary o)) = None
alone (Some (sort.Binary o)) = None

-- of a word with a number: a mark
abbrev pub numbered : Option Sort → ℕ → Option (List Operator)
numbered None m = None
numbered (Some sort.Truth) m = None
numbered (Some sort.Marked) m = Some (Mark m ∷ [])
numbered (Some (sort.Unary o)) m = None
numbered (Some (sort.Binary o)) m = None

-- an operator before the operators of its operand
abbrev pub before : Operator → Option (List Operator) → Option (List Operator)
before o None = None
before o (Some os) = Some (o ∷ os)

-- an operator before those of both its operands
abbrev pub before_both : Operator → Option (List Operator) → Option (List Operator) → Option (List Operator)
before_both o None ps = None
before_both o (Some os) None = None
before_both o (Some os) (Some ps) = Some (o ∷ (os ++ ps))

-- of a word with one form
abbrev pub under : Option Sort → Option (List Operator) → Option (List Operator)
under None os = None
under (Some sort.Truth) os = None
under (Some sort.Marked) os = None
under (Some (sort.Unary o)) os = before o os
under (Some (sort.Binary o)) os = None

-- of a word with two forms
abbrev pub under_both : Option Sort → Option (List Operator) → Option (List Operator) → Option (List Operator)
under_both None os ps = None
under_both (Some sort.Truth) os ps = None
under_both (Some sort.Marked) os ps = None
under_both (Some (sort.Unary o)) os ps = None
under_both (Some (sort.Binary o)) os ps = before_both o os ps

-- the operators, in prefix order, of a form with this head and these parts; none if it is no task form
abbrev pub operators_in : List ℕ → Parts → Option (List Operator)
operators_in h none = alone (sort_of h)
operators_in h (number m none) = numbered (sort_of h) m
operators_in h (number m (number k ps)) = None
operators_in h (number m (inner g rs ps)) = None
operators_in h (inner g rs none) = under (sort_of h) (operators_in g rs)
operators_in h (inner g rs (number m ps)) = None
operators_in h (inner g rs (inner k ss none)) = under_both (sort_of h) (operators_in g rs) (operators_in k ss)
operators_in h (inner g rs (inner k ss (number m ps))) = None
operators_in h (inner g rs (inner k ss (inner j ts ps))) = None

-- the parts of an operator without operands
abbrev pub leaf_parts : Operator → Parts
leaf_parts True = none
leaf_parts (Mark m) = number m none
leaf_parts Not = none
leaf_parts And = none
leaf_parts Or = none
leaf_parts Next = none
leaf_parts Weak = none
leaf_parts Until = none
leaf_parts Eventually = none
leaf_parts Always = none

-- a form over the first form of a list
abbrev pub over : List ℕ → List Tree → List Tree
over h [] = []
over h (f ∷ fs) = record { head = h; parts = inner f.head f.parts none } ∷ fs

-- a form over the first two
abbrev pub over_two : List ℕ → List Tree → List Tree
over_two h [] = []
over_two h (f ∷ []) = []
over_two h (f ∷ (g ∷ fs)) = record { head = h; parts = inner f.head f.parts (inner g.head g.parts none) } ∷ fs

-- what an operator makes of the forms after it
abbrev pub topped : Operator → List Tree → List Tree
topped True fs = record { head = word_of True; parts = none } ∷ fs
topped (Mark m) fs = record { head = word_of (Mark m); parts = number m none } ∷ fs
topped Not fs = over (word_of Not) fs
topped And fs = over_two (word_of And) fs
topped Or fs = over_two (word_of Or) fs
topped Next fs = over (word_of Next) fs
topped Weak fs = over (word_of Weak) fs
topped Until fs = over_two (word_of Until) fs
topped Eventually fs = over (word_of Eventually) fs
topped Always fs = over (word_of Always) fs

-- the forms of operators in prefix order, one after the other
abbrev pub forms : List Operator → List Tree
forms [] = []
forms (o ∷ os) = topped o (forms os)

-- the first of a list, or the form `(true)`
abbrev pub first_form : List Tree → Tree
first_form [] = record { head = codes "true"; parts = none }
first_form (f ∷ fs) = f

-- the form of operators that are one formula
abbrev pub task_tree : List Operator → Tree
task_tree os = first_form (forms os)
