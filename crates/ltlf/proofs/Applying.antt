-- An operator applied to the formulas after it: the words that they have, and the words that they then have.
use Rattle.std.proofs.Common.{◌≡◌, ℕ, Bool, List, [], ◌∷◌, Some, None, Option, sym, refl, arith}
use Rattle.ltlf.specs.Ltlf.{Ltlf}
use Rattle.ltlf.specs.Prefix.{over, over_two}
use Rattle.ltlf.specs.Evaluation.{Evaluates}

unsome : {A : Type 0} {x y : A} → ◌≡◌ {A = Option A} (Some x) (Some y) → x ≡ y
unsome e = cc

never_some : {A B : Type 0} {x : A} → ◌≡◌ {A = Option A} None (Some x) → B
never_some e = let z : ◌≡◌ {A = ℕ} 0 1 = cc in let w : ⊥ = omega arith in absurd w

-- the same words under other names
moved : (fs gs : List Ltlf) (zs : List Bool) (m n a : ℕ) (vs ws ds es : List ℕ) → gs ≡ fs → m ≡ n → vs ≡ ws → ds ≡ es
    → Evaluates fs zs n a ws es → Evaluates gs zs m a vs ds
moved fs gs zs m n a vs ws ds es g p q r e = record {
  here = λ w h. rw (g, p, q) (e.here w h);
  before = λ w h. rw (g, p, r) (e.before w h);
}

-- The formulas fs have the words us and es before, and gs the words vs and ds after. A turn is told of the words
-- by the terms that they are equal to.
module _ (fs gs : List Ltlf) (zs : List Bool) (a n m : ℕ) (us es vs ds : List ℕ) (n' m' : ℕ) (us' vs' ds' : List ℕ)
    (n_is : n ≡ n') (m_is : m ≡ m') (us_is : us ≡ us') (vs_is : vs ≡ vs') (ds_is : ds ≡ ds') where
  turned : (hs : List Ltlf) → gs ≡ hs → Evaluates hs zs m' a vs' ds' → Evaluates gs zs m a vs ds
  turned hs e ev = moved hs gs zs m m' a vs vs' ds ds' e m_is vs_is ds_is ev

  ready : (hs : List Ltlf) → hs ≡ fs → Evaluates fs zs n a us es → Evaluates hs zs n' a us' es
  ready hs e ev = moved fs hs zs n' n a us' us es es e (sym n_is) (sym us_is) refl ev

  pub no_operand : (f : Ltlf) → ◌≡◌ {A = Option (List Ltlf)} (Some (f ∷ fs)) (Some gs)
      → (Evaluates fs zs n' a us' es → Evaluates (f ∷ fs) zs m' a vs' ds')
      → Evaluates fs zs n a us es → Evaluates gs zs m a vs ds
  no_operand f e turn ev = turned (f ∷ fs) (sym (unsome e)) (turn (ready fs refl ev))

  one_split : (hs : List Ltlf) (k : Ltlf → Ltlf) → hs ≡ fs → over k hs ≡ Some gs
      → ((f : Ltlf) (rest : List Ltlf) → Evaluates (f ∷ rest) zs n' a us' es → Evaluates (k f ∷ rest) zs m' a vs' ds')
      → Evaluates fs zs n a us es → Evaluates gs zs m a vs ds
  one_split [] k p e turn ev = never_some e
  one_split (f ∷ hs) k p e turn ev = turned (k f ∷ hs) (sym (unsome e)) (turn f hs (ready (f ∷ hs) p ev))

  pub one_operand : (k : Ltlf → Ltlf) → over k fs ≡ Some gs
      → ((f : Ltlf) (rest : List Ltlf) → Evaluates (f ∷ rest) zs n' a us' es → Evaluates (k f ∷ rest) zs m' a vs' ds')
      → Evaluates fs zs n a us es → Evaluates gs zs m a vs ds
  one_operand k e turn ev = one_split fs k refl e turn ev

  two_split : (hs : List Ltlf) (k : Ltlf → Ltlf → Ltlf) → hs ≡ fs → over_two k hs ≡ Some gs
      → ((f g : Ltlf) (rest : List Ltlf) → Evaluates (f ∷ (g ∷ rest)) zs n' a us' es → Evaluates (k f g ∷ rest) zs m' a vs' ds')
      → Evaluates fs zs n a us es → Evaluates gs zs m a vs ds
  two_split [] k p e turn ev = never_some e
  two_split (f ∷ []) k p e turn ev = never_some e
  two_split (f ∷ (g ∷ hs)) k p e turn ev = turned (k f g ∷ hs) (sym (unsome e)) (turn f g hs (ready (f ∷ (g ∷ hs)) p ev))

  pub two_operands : (k : Ltlf → Ltlf → Ltlf) → over_two k fs ≡ Some gs
      → ((f g : Ltlf) (rest : List Ltlf) → Evaluates (f ∷ (g ∷ rest)) zs n' a us' es → Evaluates (k f g ∷ rest) zs m' a vs' ds')
      → Evaluates fs zs n a us es → Evaluates gs zs m a vs ds
  two_operands k e turn ev = two_split fs k refl e turn ev
