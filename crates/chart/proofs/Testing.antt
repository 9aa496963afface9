-- Tests of each element of a list.
use Rattle.std.proofs.Common.{◌≡◌, ℕ, zero, suc, ◌<◌, Bool, true, List, [], ◌∷◌, length, get_or, arith}
use Rattle.std.specs.List.{list_all}
use Rattle.std.proofs.lemmas.Bool.{and_parts}

-- what each element passes, the one at i does
pub passes_at : {X : Type 0} (test : X → Bool) (xs : List X) (i : ℕ) (d : X) → i < length xs → list_all test xs ≡ true → test (get_or xs i d) ≡ true
passes_at test [] i d h e = let none : ⊥ = omega arith in absurd none
passes_at test (x ∷ xs) zero d h e = (and_parts _ _ e).0
passes_at test (x ∷ xs) (suc i) d h e = passes_at test xs i d (omega arith) (and_parts _ _ e).1
