-- Worked cases of the definitions, each of which the checker computes.
use Rattle.std.specs.Prelude.{◌≡◌, ℕ, true, false, [], ◌∷◌, map, Some}
use Rattle.ltlf.specs.declared.operator.Operator.TheVariants.{Eventually, And, Mark, Next}
use Rattle.ltlf.specs.Ltlf.{Ltlf, top, mark, neg, conj, next, weak, eventually, always, Satisfies}
use Rattle.ltlf.specs.Automaton.{accepting}
use Rattle.ltlf.specs.Numbering.{states}
use Rattle.ltlf.specs.Prefix.{formula}

-- eventually mark 0, and later mark 1
abbrev pub bore : Ltlf
bore = eventually (conj (mark 0) (next (eventually (mark 1))))

pub record Worked : Type 0 where
  pub bore_formula : formula (Eventually ∷ And ∷ Mark 0 ∷ Next ∷ Eventually ∷ Mark 1 ∷ []) ≡ Some bore
  -- the states, each at its number, and which of them accept
  pub eventually_states : states (eventually (mark 0)) 2 ≡ 2 ∷ 3 ∷ []
  pub eventually_accepts : map (accepting (eventually (mark 0))) (2 ∷ 3 ∷ []) ≡ false ∷ true ∷ []
  pub never_states : states (always (neg (mark 0))) 2 ≡ 1 ∷ 0 ∷ []
  pub never_accepts : map (accepting (always (neg (mark 0)))) (1 ∷ 0 ∷ []) ≡ true ∷ false ∷ []
  pub bore_states : states bore 4 ≡ 170 ∷ 238 ∷ 250 ∷ 254 ∷ 255 ∷ []
  pub bore_accepts : map (accepting bore) (170 ∷ 238 ∷ 250 ∷ 254 ∷ 255 ∷ []) ≡ false ∷ false ∷ false ∷ false ∷ true ∷ []
  -- letters that satisfy a formula, and letters that do not
  pub there_and_back : Satisfies (0 ∷ 2 ∷ 0 ∷ 1 ∷ 0 ∷ 2 ∷ []) bore
  pub not_back_yet : Satisfies (0 ∷ 2 ∷ 0 ∷ 1 ∷ 0 ∷ []) bore → ⊥
  pub both_marks_once : Satisfies (3 ∷ []) bore → ⊥
  pub both_marks_twice : Satisfies (3 ∷ 3 ∷ []) bore
  pub next_of_one : (a : ℕ) → Satisfies (a ∷ []) (next top) → ⊥
  pub next_of_two : (a b : ℕ) → Satisfies (a ∷ b ∷ []) (next top)
  pub weak_of_one : (a : ℕ) → Satisfies (a ∷ []) (weak (neg top))
  pub weak_of_two : (a b : ℕ) → Satisfies (a ∷ b ∷ []) (weak (neg top)) → ⊥
