-- What a task is, and what its calls answer.
use Rattle.std.specs.Prelude.{ℕ, ◌^◌, Bool, cond, ◌&&◌, List, length, Some, None, Option, nat_lt, slice_index}
use Rattle.ltlf.specs.declared.operator.Operator.{Operator}
use Rattle.ltlf.specs.Ltlf.{Ltlf}
use Rattle.ltlf.specs.Numbering.{states, first_number, next_number, accepts_number}
use Rattle.task.specs.declared.compiled.Task.{Task}
use Rattle.task.specs.Written.{written, formula_of}

-- the operators that a task was made of, the formula that they are, and how many marks and letters it has
abbrev pub operators_of : Task → List Operator
operators_of t = written t.formula

abbrev pub task_formula : Task → Ltlf
task_formula t = formula_of t.formula

abbrev pub marks_of : Task → ℕ
marks_of t = t.formula.marks

abbrev pub letters_of : Task → ℕ
letters_of t = 2 ^ marks_of t

-- the states, each at its number
abbrev pub states_of : Task → List ℕ
states_of t = states (task_formula t) (letters_of t)

-- the number of the state after a first letter; none for what is no letter
abbrev pub first_state : Ltlf → ℕ → ℕ → Option ℕ
first_state f n a = cond (nat_lt a n) (Some (first_number f n a)) None

-- the number of the state after a further letter; none for what is no state or no letter
abbrev pub next_state : Ltlf → ℕ → ℕ → ℕ → Option ℕ
next_state f n q a = cond (nat_lt q (length (states f n)) && nat_lt a n) (Some (next_number f n q a)) None

-- whether a state accepts; none for what is no state
abbrev pub accepts_state : Ltlf → ℕ → ℕ → Option Bool
accepts_state f n q = cond (nat_lt q (length (states f n))) (Some (accepts_number f n q)) None

-- the forecasts of a state; none for what is no state
abbrev pub forecasts_of : Ltlf → ℕ → ℕ → Option ℕ
forecasts_of f n q = cond (nat_lt q (length (states f n))) (Some (slice_index (states f n) q)) None
