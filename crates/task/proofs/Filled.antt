-- An array that a closure fills place by place, and leaves what it captures as it was.
use Rattle.std.proofs.Common.{◌≡◌, ℕ, zero, suc, ◌+◌, ◌<◌, ◌≤◌, List, get_or, sym, refl, subst, inl, inr, arith}
use Rattle.std.proofs.lemmas.Bool.{cases_eq}
use Rattle.std.specs.Array.{IsFromFnResultFrom}
use Rattle.std.specs.Fn.{Called}
use denote.Param.Members.{Mut}

module _ {F B : Type 0} (g : Mut F (ℕ × Unit {0}) B) (R : ℕ → B → Type 0) (f : F) (ys : List B) (size : ℕ)
    (one : (i : ℕ) (y : B) (q : F) → i < size → Called g f (i, tt) y q → (q ≡ f) × R i y) where
  filled_from : (n i : ℕ) (q : F) → q ≡ f → i + n ≡ size → IsFromFnResultFrom g q ys i n → (k : ℕ) (d : B) → i ≤ k → k < size → R k (get_or ys k d)
  filled_from zero i q same e made k d low high = let z : ⊥ = omega arith in absurd z
  filled_from (suc n) i q same e made k d low high =
      let P : F → Type 0 = λ s. Called g s (i, tt) made.1 made.0 in
      let turn = one i made.1 made.0 (omega arith) (subst P same made.3) in
      elim (cases_eq k i) [
        | inl here ↦ subst (λ j. R j (get_or ys j d)) (sym here) (subst (R i) (sym (made.2.1 d)) turn.1)
        | inr other ↦ filled_from n (i + 1) made.0 turn.0 (omega arith) made.4 k d (omega arith) high
      ]

  -- each place has what the closure gives there
  pub filled : IsFromFnResultFrom g f ys 0 size → (k : ℕ) (d : B) → k < size → R k (get_or ys k d)
  filled made k d h = filled_from size 0 f refl (omega arith) made k d (omega arith) h
