-- The questions that a list of operators is asked before it is a task, and the number of each refusal.
use Rattle.std.specs.Prelude.{ℕ, ◌^◌, Bool, true, false, ◌&&◌, List, length, is_some, Some, None, Option, nat_le}
use Rattle.ltlf.specs.declared.operator.Operator.{Operator}
use Rattle.ltlf.specs.Prefix.{formula, meaning, marks_below, temporals}
use Rattle.ltlf.specs.Numbering.{states}
use Rattle.task.specs.declared.fault.Fault.{Fault}
use Rattle.task.specs.declared.fault.Fault.TheVariants.{NotAFormula, OutOfRange, TooManyOperators, TooManyTemporal, TooManyStates}

abbrev pub fault_number : Fault → ℕ
fault_number NotAFormula = 4
fault_number OutOfRange = 6
fault_number TooManyOperators = 7
fault_number TooManyTemporal = 8
fault_number TooManyStates = 10

-- one question: a no is the answer, a yes goes on to the questions after it
abbrev pub ask : Bool → Fault → Option Fault → Option Fault
ask true fault later = later
ask false fault later = Some fault

-- the questions about the operators themselves, in their order
abbrev pub formula_fault : ℕ → List Operator → Option Fault → Option Fault
formula_fault p os later =
    ask (is_some (formula os)) NotAFormula
    (ask ((nat_le 1 p && nat_le p 6) && marks_below p os) OutOfRange
    (ask (nat_le (length os) 64) TooManyOperators
    (ask (nat_le (temporals os) 6) TooManyTemporal later)))

-- the first no of all the questions that p marks and the operators are asked, or none
abbrev pub task_fault : ℕ → List Operator → Option Fault
task_fault p os = formula_fault p os (ask (nat_le (length (states (meaning os) (2 ^ p))) 64) TooManyStates None)
