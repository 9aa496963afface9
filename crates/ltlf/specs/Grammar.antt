-- The prefix order as a grammar.
use Rattle.std.specs.Prelude.{ℕ, List, [], ◌∷◌, ◌++◌}
use Rattle.ltlf.specs.Ltlf.{Ltlf, top, mark, neg, conj, disj, next, weak, until, eventually, always}
use Rattle.ltlf.specs.declared.operator.Operator.{Operator}
use Rattle.ltlf.specs.declared.operator.Operator.TheVariants.{True, Mark, Not, And, Or, Next, Weak, Until, Eventually, Always}

-- the operators are the formula in prefix order: an operator, then its operands one after the other
pub data Writes : List Operator → Ltlf → Type 0 where
  is_true : Writes (True ∷ []) top
  is_mark : (m : ℕ) → Writes (Mark m ∷ []) (mark m)
  is_not : {os : List Operator} {f : Ltlf} → Writes os f → Writes (Not ∷ os) (neg f)
  is_and : {os ps : List Operator} {f g : Ltlf} → Writes os f → Writes ps g → Writes (And ∷ (os ++ ps)) (conj f g)
  is_or : {os ps : List Operator} {f g : Ltlf} → Writes os f → Writes ps g → Writes (Or ∷ (os ++ ps)) (disj f g)
  is_next : {os : List Operator} {f : Ltlf} → Writes os f → Writes (Next ∷ os) (next f)
  is_weak : {os : List Operator} {f : Ltlf} → Writes os f → Writes (Weak ∷ os) (weak f)
  is_until : {os ps : List Operator} {f g : Ltlf} → Writes os f → Writes ps g → Writes (Until ∷ (os ++ ps)) (until f g)
  is_eventually : {os : List Operator} {f : Ltlf} → Writes os f → Writes (Eventually ∷ os) (eventually f)
  is_always : {os : List Operator} {f : Ltlf} → Writes os f → Writes (Always ∷ os) (always f)
