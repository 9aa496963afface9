-- Where no arc improves a value, each value is the best.
use Rattle.std.proofs.Common.{◌≡◌, ℕ, ◌<◌, ◌≤◌, true, ◌⊎◌, List, [], ◌∷◌, refl, ap, subst, inl, inr, ⊎_elim, le_refl, arith}
use Rattle.std.proofs.lemmas.Bool.{cases_lt}
use Rattle.best.specs.Kinds.{Order, Lawful}
use Rattle.best.specs.Paths.{Meaning, Closed, Path, back, at, Reached, IsBest}
use Rattle.best.specs.Theorems.{OneBest}
use Rattle.best.specs.Sweeps.{Settled, Traced, Improves}

module _ {V W : Type 0} (o : Order V W) (m : Meaning W) (lawful : Lawful o) (closed : Closed m) (seeds : List V) where
  -- a path never improves a seed
  worse : (path : List (ℕ × W)) (v : V) → o.rank v ≤ o.rank (back o path v)
  worse [] v = le_refl _
  worse (e ∷ rest) v = omega (arith, worse rest v, lawful.worsens e.1 (back o rest v))

  reached : (u : ℕ) (r : V) → o.proper r ≡ true → Traced o m seeds u r → (r ≡ o.none) ⊎ Reached o m seeds u r
  reached u r p t = ⊎_elim
      (λ (lt : o.rank (at o seeds t.0) < o.rank o.none). inr (t.0, t.1, t.2, t.3, lt, t.4))
      (λ (ge : o.rank o.none ≤ o.rank (at o seeds t.0)).
      inl (lawful.apart r o.none p lawful.none_proper (omega (arith, worse t.1 (at o seeds t.0), ap o.rank t.4, lawful.worst r))))
      (cases_lt (o.rank (at o seeds t.0)) (o.rank o.none))

  module _ (xs : List V) (improves : Improves o m seeds xs) (settled : (u : ℕ) → u < m.nodes → Settled o m xs u) where
    least : (path : List (ℕ × W)) (u s : ℕ) → u < m.nodes → Path m u path s → o.rank (at o xs u) ≤ o.rank (back o path (at o seeds s))
    least [] u s lt e = subst (λ (z : ℕ). o.rank (at o xs u) ≤ o.rank (at o seeds z)) e (improves.better u)
    least (e ∷ rest) u s lt p =
        let a = p.0 in
        let there = least rest e.0 s (closed u a.0 e.0 e.1 lt a.1 a.2) p.1 in
        omega (arith, settled u lt a.0 a.1 e.0 e.1 a.2, lawful.keeps e.1 (at o xs e.0) (back o rest (at o seeds s)) there)

    pub is_best : IsBest o m seeds xs
    is_best = record {
      long = improves.long;
      reached = λ u lt p. reached u (at o xs u) p (improves.sound seeds (λ v h. (v, [], h, refl, refl)) u lt);
      least = λ u s path. least path u s;
    }

-- what is best is one
module _ {V W : Type 0} (o : Order V W) (m : Meaning W) (lawful : Lawful o) (seeds : List V) where
  no_worse : (xs ys : List V) → IsBest o m seeds xs → IsBest o m seeds ys → (u : ℕ) → u < m.nodes → o.proper (at o xs u) ≡ true
      → o.rank (at o ys u) ≤ o.rank (at o xs u)
  no_worse xs ys p q u lt proper = grind arith

pub one_best : {V W : Type 0} (o : Order V W) (m : Meaning W) → OneBest o m
one_best o m lawful seeds xs ys p q u lt a b = grind (arith, no_worse)
