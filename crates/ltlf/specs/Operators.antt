-- Single operators.
use Rattle.std.specs.Prelude.{ℕ, Bool, true, false}
use Rattle.ltlf.specs.declared.operator.Operator.{Operator}
use Rattle.ltlf.specs.declared.operator.Operator.TheVariants.{True, Mark, Not, And, Or, Next, Weak, Until, Eventually, Always}

-- how many operands follow an operator
abbrev pub operands : Operator → ℕ
operands True = 0
operands (Mark m) = 0
operands Not = 1
operands And = 2
operands Or = 2
operands Next = 1
operands Weak = 1
operands Until = 2
operands Eventually = 1
operands Always = 1

-- the temporal operators; an eventually and an always are one each, that of the until inside it
abbrev pub is_temporal : Operator → Bool
is_temporal True = false
is_temporal (Mark m) = false
is_temporal Not = false
is_temporal And = false
is_temporal Or = false
is_temporal Next = true
is_temporal Weak = true
is_temporal Until = true
is_temporal Eventually = true
is_temporal Always = true
