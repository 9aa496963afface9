-- Values that get better, one node at a time.
use Rattle.std.proofs.Common.{◌≡◌, ℕ, ◌<◌, ◌≤◌, List, ◌∷◌, length, get_or, set, Some, refl, ap, ◌∙◌, le_refl, arith}
use Rattle.std.proofs.lemmas.List.{length-set, get_or_default}
use Rattle.std.proofs.lemmas.List.Sums.{sum_by-set}
use Rattle.std.proofs.lemmas.Grind.{common_steps}
use Rattle.best.specs.Kinds.{Order}
use Rattle.best.specs.Arcs.{Steps}
use Rattle.best.specs.Paths.{Meaning, Closed, Reverses, at}
use Rattle.best.specs.Sweeps.{Via, Traced, Sound, total, Improves}

module _ {V W : Type 0} (o : Order V W) (m : Meaning W) where
  pub improves_none : (xs : List V) → Improves o m xs xs
  improves_none xs = record { long = refl; better = λ u. le_refl _; sound = λ seeds h. h }

  pub improves_then : {xs ys zs : List V} → Improves o m xs ys → Improves o m ys zs → Improves o m xs zs
  improves_then p q = grind arith

  -- what stands at each node after a write at one
  module _ (ys : List V) (i : ℕ) (b : V) (within : i < length ys) where
    written : (P : ℕ → V → Type 0) → P i b → ((u : ℕ) → P u (at o ys u)) → (u : ℕ) → P u (at o (set ys i b) u)
    written P here there u = grind (arith, common_steps)

  pub total_write : (ys : List V) (i : ℕ) (b : V) → i < length ys → o.rank b < o.rank (at o ys i) → total o (set ys i b) < total o ys
  total_write ys i b within less = omega (arith, sum_by-set o.rank ys i b o.none within, less)

  module _ (closed : Closed m) (ys : List V) (i : ℕ) (b : V) (lt : i < m.nodes) (within : i < length ys)
      (less : o.rank b < o.rank (at o ys i)) (via : Via o m ys i b) where
    -- one arc more in front of a path
    further : (seeds : List V) → Sound o m seeds ys → Traced o m seeds i b
    further seeds sound =
        let v = via.0 in
        let w = via.1 in
        let a = via.2 in
        let t = sound v (closed i a.0 v w lt a.1 a.2) in
        (t.0, (v, w) ∷ t.1, t.2, (a, t.3), via.3 ∙ ap (o.extended w) t.4)

    pub improves_write : Improves o m ys (set ys i b)
    improves_write = record {
      long = length-set ys i b;
      better = written ys i b within (λ u x. o.rank x ≤ o.rank (at o ys u)) (omega (arith, less)) (λ u. le_refl _);
      sound = λ seeds fine. written ys i b within (λ u x. u < m.nodes → Traced o m seeds u x) (λ _. further seeds fine) fine;
    }

-- a node gets a better value by an arc that was found the other way round
pub carried : {V W : Type 0} (o : Order V W) (m r : Meaning W) → Closed m → Reverses m r → {ys : List V} → length ys ≡ m.nodes
    → {v k l u : ℕ} {w : W} {b : V} → v < m.nodes → Steps r v k (Some (u, w)) l → (x y : V) → b ≡ o.extended w (get_or ys v y)
    → o.rank b < o.rank (get_or ys u x) → Improves o m ys (set ys u b) × (total o (set ys u b) < total o ys)
carried o m r closed reverses {ys} all {v} {u = u} {w} {b} v_lt step x y b_is less =
    let next = step.2 in
    let source = reverses v step.0 u w v_lt next.1 next.3 in
    let within : u < length ys = omega (arith, all, source.0) in
    let lower : o.rank b < o.rank (at o ys u) = omega (arith, less, ap o.rank (get_or_default ys u x o.none within)) in
    let via : Via o m ys u b = (v, w, source.1, b_is ∙ ap (o.extended w) (get_or_default ys v y o.none (omega (arith, all, v_lt)))) in
    (improves_write o m closed ys u b source.0 within lower via, total_write o m ys u b within lower)
