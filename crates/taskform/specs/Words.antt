-- The word of each operator.
use Rattle.std.specs.Prelude.{ℕ, cond, List, Some, None, codes, Option}
use Rattle.std.specs.Str.{bytes_eq}
use Rattle.ltlf.specs.declared.operator.Operator.{Operator}
use Rattle.ltlf.specs.declared.operator.Operator.TheVariants.{True, Mark, Not, And, Or, Next, Weak, Until, Eventually, Always}
use Rattle.taskform.specs.declared.sort.Sort.{Sort}
use Rattle.taskform.specs.declared.sort.Sort.TheVariants as sort

-- the head of an operator's form
abbrev pub word_of : Operator → List ℕ
word_of True = codes "true"
word_of (Mark m) = codes "mark"
word_of Not = codes "not"
word_of And = codes "and"
word_of Or = codes "or"
word_of Next = codes "next"
word_of Weak = codes "weak"
word_of Until = codes "until"
word_of Eventually = codes "eventually"
word_of Always = codes "always"

-- what a word takes: nothing, a mark's number, one operand, or two; none for a word of no operator
abbrev pub sort_of : List ℕ → Option Sort
sort_of h =
    cond (bytes_eq h (codes "true")) (Some sort.Truth)
    (cond (bytes_eq h (codes "mark")) (Some sort.Marked)
    (cond (bytes_eq h (codes "not")) (Some (sort.Unary Not))
    (cond (bytes_eq h (codes "and")) (Some (sort.Binary And))
    (cond (bytes_eq h (codes "or")) (Some (sort.Binary Or))
    (cond (bytes_eq h (codes "next")) (Some (sort.Unary Next))
    (cond (bytes_eq h (codes "weak")) (Some (sort.Unary Weak))
    (cond (bytes_eq h (codes "until")) (Some (sort.Binary Until))
    (cond (bytes_eq h (codes "eventually")) (Some (sort.Unary Eventually))
    (cond (bytes_eq h (codes "always")) (Some (sort.Unary Always)) None)))))))))
