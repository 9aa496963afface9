-- The worked cases, computed.
use Rattle.std.proofs.Common.{[], ◌∷◌, refl, arith}
use Rattle.ltlf.specs.Numbering.{states}
use Rattle.ltlf.proofs.Right.{accepts_satisfying}
use Rattle.std.proofs.lemmas.Bool.Decides.{not_from_Decides}
use Rattle.worked.specs.Cases.{bore, Worked}

pub worked : Worked
unfolding states
worked = record {
  bore_formula = refl;
  eventually_states = refl;
  eventually_accepts = refl;
  never_states = refl;
  never_accepts = refl;
  bore_states = refl;
  bore_accepts = refl;
  there_and_back = (accepts_satisfying bore (0 ∷ 2 ∷ 0 ∷ 1 ∷ 0 ∷ 2 ∷ [])).0 refl;
  not_back_yet = not_from_Decides _ (accepts_satisfying bore (0 ∷ 2 ∷ 0 ∷ 1 ∷ 0 ∷ [])) refl;
  both_marks_once = not_from_Decides _ (accepts_satisfying bore (3 ∷ [])) refl;
  both_marks_twice = (accepts_satisfying bore (3 ∷ 3 ∷ [])).0 refl;
  next_of_one = λ a s. omega (arith, s.1.0);
  next_of_two = λ a b. (omega arith, (omega arith, tt));
  weak_of_one = λ a. (omega arith, λ h. let z : ⊥ = omega arith in absurd z);
  weak_of_two = λ a b s. s.1 (omega arith) tt;
}
