-- One node: the best of its arcs so far.
use Rattle.std.proofs.Common.{◌≡◌, ℕ, ◌<◌, ◌≤◌, List, length, get_or, Some, None, Option, refl, ap, ◌∙◌, arith}
use Rattle.std.proofs.lemmas.List.{get_or_default}
use Rattle.best.specs.Kinds.{Order}
use Rattle.best.specs.Arcs.{Steps}
use Rattle.best.specs.Paths.{Meaning, Closed, at}
use Rattle.best.specs.Sweeps.{Via, SettledTo}

module _ {V W : Type 0} (o : Order V W) (m : Meaning W) (xs : List V) (u : ℕ) where
  abbrev pub Found : V → Option V → Type 0
  Found x None = x ≡ at o xs u
  Found x (Some b) = (b ≡ x) × (o.rank b < o.rank (at o xs u)) × Via o m xs u b

  pub record SoFar (k : ℕ) (x : V) (found : Option V) : Type 0 where
    pub settled : SettledTo o m xs u x k
    pub best : Found x found

  -- x is no worse than what stood there at the start
  no_worse : (x : V) (f : Option V) → Found x f → o.rank x ≤ o.rank (at o xs u)
  no_worse x None e = omega (arith, ap o.rank e)
  no_worse x (Some b) h = omega (arith, ap o.rank h.0, h.1)

module _ {V W : Type 0} {o : Order V W} {m : Meaning W} {xs : List V} {u : ℕ} where
  -- an arc gives a better value
  pub taken : Closed m → length xs ≡ m.nodes → u < m.nodes → {k l v : ℕ} {w : W} {x y : V} {f : Option V} → SoFar o m xs u k x f
      → Steps m u k (Some (v, w)) l → (z : V) → y ≡ o.extended w (get_or xs v z) → o.rank y < o.rank x → SoFar o m xs u l y (Some y)
  taken closed all u_lt {k} {l} {v} {w} {x} {y} {f} s step z e less =
      let next = step.2 in
      let v_lt = closed u step.0 v w u_lt next.1 next.3 in
      let via : y ≡ o.extended w (at o xs v) = e ∙ ap (o.extended w) (get_or_default xs v z o.none (omega (arith, v_lt, all))) in
      record {
        settled = grind arith;
        best = (refl, omega (arith, less, no_worse o m xs u x f s.best), (v, w, (step.0, next.1, next.3), via));
      }
