-- What a list of operators in prefix order stands for.
use Rattle.std.specs.Prelude.{ℕ, ◌+◌, Bool, true, cond, ◌&&◌, List, [], ◌∷◌, Some, None, Option, nat_lt}
use Rattle.ltlf.specs.Ltlf.{Ltlf, top, mark, neg, conj, disj, next, weak, until, eventually, always}
use Rattle.ltlf.specs.declared.operator.Operator.{Operator}
use Rattle.ltlf.specs.declared.operator.Operator.TheVariants.{True, Mark, Not, And, Or, Next, Weak, Until, Eventually, Always}
use Rattle.ltlf.specs.Operators.{is_temporal}

-- an operator over the formula after it, none where there is no formula
abbrev pub over : (Ltlf → Ltlf) → List Ltlf → Option (List Ltlf)
over k [] = None
over k (f ∷ fs) = Some (k f ∷ fs)

-- an operator over the two formulas after it
abbrev pub over_two : (Ltlf → Ltlf → Ltlf) → List Ltlf → Option (List Ltlf)
over_two k [] = None
over_two k (f ∷ fs) = over (k f) fs

-- what an operator makes of the formulas after it
abbrev pub made : Operator → List Ltlf → Option (List Ltlf)
made True fs = Some (top ∷ fs)
made (Mark m) fs = Some (mark m ∷ fs)
made Not fs = over neg fs
made And fs = over_two conj fs
made Or fs = over_two disj fs
made Next fs = over next fs
made Weak fs = over weak fs
made Until fs = over_two until fs
made Eventually fs = over eventually fs
made Always fs = over always fs

abbrev pub made_of : Operator → Option (List Ltlf) → Option (List Ltlf)
made_of o None = None
made_of o (Some fs) = made o fs

-- the formulas that the operators stand for, one after the other; none where an operand is missing
abbrev pub formulas : List Operator → Option (List Ltlf)
formulas [] = Some []
formulas (o ∷ os) = made_of o (formulas os)

-- the only one of a list
abbrev pub only : Option (List Ltlf) → Option Ltlf
only None = None
only (Some []) = None
only (Some (f ∷ [])) = Some f
only (Some (f ∷ (g ∷ fs))) = None

-- the formula that the operators are; none where they are not exactly one
abbrev pub formula : List Operator → Option Ltlf
formula os = only (formulas os)

-- the same, and `true` where they are not exactly one
abbrev pub or_top : Option Ltlf → Ltlf
or_top None = top
or_top (Some f) = f

abbrev pub meaning : List Operator → Ltlf
meaning os = or_top (formula os)

-- whether each mark is below p
abbrev pub mark_below : ℕ → Operator → Bool
mark_below p True = true
mark_below p (Mark m) = nat_lt m p
mark_below p Not = true
mark_below p And = true
mark_below p Or = true
mark_below p Next = true
mark_below p Weak = true
mark_below p Until = true
mark_below p Eventually = true
mark_below p Always = true

abbrev pub marks_below : ℕ → List Operator → Bool
marks_below p [] = true
marks_below p (o ∷ os) = mark_below p o && marks_below p os

-- how many temporal operators there are
abbrev pub temporals : List Operator → ℕ
temporals [] = 0
temporals (o ∷ os) = cond (is_temporal o) 1 0 + temporals os
