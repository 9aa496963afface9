-- Tasks by numbers, as a program in another language hands them over.
use Rattle.std.specs.Prelude.{ℕ, ◌+◌, ◌-◌, ◌^◌, cond, ◌&&◌, List, map, length, Some, None, Option, ◌==◌, nat_le, nat_lt}
use Rattle.ltlf.specs.declared.operator.Operator.{Operator}
use Rattle.ltlf.specs.declared.operator.Operator.TheVariants.{True, Mark, Not, And, Or, Next, Weak, Until, Eventually, Always}
use Rattle.ltlf.specs.Numbering.{states}
use Rattle.ltlf.specs.Prefix.{meaning}
use Rattle.task.specs.declared.fault.Fault.{Fault}
use Rattle.task.specs.Faults.{fault_number, task_fault}

-- the operator of a code
abbrev pub operator_at : ℕ → Operator
operator_at n =
    cond (n == 1) Not (cond (n == 2) And (cond (n == 3) Or (cond (n == 4) Next (cond (n == 5) Weak
    (cond (n == 6) Until (cond (n == 7) Eventually (cond (n == 8) Always (cond (nat_le 16 n && nat_le n 31) (Mark (n - 16)) True))))))))

-- the number of states, or 128 and the number of the refusal
abbrev pub told_of : Option Fault → ℕ → ℕ
told_of None n = n
told_of (Some fault) n = 128 + fault_number fault

-- the answer for the codes; 255 where there are more than 80 of them
abbrev pub told_for : ℕ → List ℕ → ℕ
told_for p codes =
    cond (nat_lt 80 (length codes)) 255
    (told_of (task_fault p (map operator_at codes)) (length (states (meaning (map operator_at codes)) (2 ^ p))))
