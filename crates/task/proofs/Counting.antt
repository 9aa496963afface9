-- The formulas that operators make, counted from the last operator on.
use Rattle.std.proofs.Common.{◌≡◌, ℕ, ◌+◌, ◌-◌, ◌<◌, ◌≤◌, false, List, [], ◌∷◌, ◌++◌, length, is_some, Some, None, sym, refl, ap, ◌∙◌, arith}
use Rattle.std.proofs.lemmas.List.{append-nil}
use Rattle.ltlf.specs.Ltlf.{Ltlf}
use Rattle.ltlf.specs.declared.operator.Operator.{Operator}
use Rattle.ltlf.specs.Operators.{operands}
use Rattle.ltlf.specs.Prefix.{made_of, formulas, only, formula}
use Rattle.ltlf.proofs.Suffixes.{made_enough, made_short, none_after}
use Rattle.task.proofs.Backwards.{one_moved}

-- the operators after those that are left make h formulas
pub record Counted (all left : List Operator) (h : ℕ) : Type 0 where
  pub rest : List Operator
  pub front : all ≡ left ++ rest
  pub made : List Ltlf
  pub are : formulas rest ≡ Some made
  pub many : length made ≡ h
  pub few : h ≤ length rest

pub counted_none : (all : List Operator) → Counted all all 0
counted_none all = record { rest = []; front = sym (append-nil all); made = []; are = refl; many = refl; few = omega arith }

module _ (all left less : List Operator) (o : Operator) (h : ℕ) (is : left ≡ less ++ o ∷ []) (c : Counted all left h) where
  pub counted_more : operands o ≤ h → Counted all less (h - operands o + 1)
  counted_more l =
      let m = made_enough o c.made (omega (arith, c.many)) in
      record {
        rest = o ∷ c.rest;
        front = one_moved all left less c.rest o c.front is;
        made = m.result;
        are = ap (made_of o) c.are ∙ m.is;
        many = omega (arith, m.length_is, c.many);
        few = omega (arith, c.few);
      }

  pub counted_short : h < operands o → is_some (formula all) ≡ false
  counted_short l =
      let none : formulas (o ∷ c.rest) ≡ None = ap (made_of o) c.are ∙ made_short o c.made (omega (arith, c.many)) in
      ap (λ os. is_some (formula os)) (one_moved all left less c.rest o c.front is) ∙ ap (λ x. is_some (only x)) (none_after less (o ∷ c.rest) none)
