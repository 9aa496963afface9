-- The guide that a decision leaves, and which pairs are live, by best values over a net.
use Rattle.std.proofs.Common.{◌≡◌, ℕ, ◌+◌, ◌<◌, ◌≤◌, min, Bool, true, false, cond, List, [], ◌∷◌, get_or, Some, Decides, sym, refl, ap, ◌∙◌, subst, inl, inr, ⊎_elim, arith}
use Rattle.std.proofs.lemmas.Bool.{cases_lt, both_ways, le-leb}
use Rattle.best.specs.Kinds.{answers, counts}
use Rattle.best.specs.Paths.{Meaning, Path as Way, back, at as value, Reached, IsBest}
use Rattle.law.specs.Grounds.{Land, Ground, Path, cost, Live}
use Rattle.law.specs.Searches.{Search, Through, Updated}
use Rattle.law.proofs.Paths.{Sound}
use Rattle.law.proofs.Searching.{Seen}
use Rattle.law.proofs.Settled.{Settled, settles}

-- THE GUIDE

-- The closed pairs are the nodes, under names; an arc is a leg from one to another; a node's seed is the least that a leg to a listed pair gives it.
pub record ClosedNet (G : Ground) (s : Search) (h : ℕ → ℕ) (most : ℕ) (m : Meaning ℕ) (name : ℕ → ℕ) (seeds : List ℕ) : Type 0 where
  pub closed : (j : ℕ) → j < m.nodes → s.closed (name j) ≡ true
  pub named : (p : ℕ) → s.closed p ≡ true → (j : ℕ) × (j < m.nodes) × (name j ≡ p)
  pub arcs : (j l v w : ℕ) → j < m.nodes → m.arc j l ≡ Some (v, w)
      → (v < m.nodes) × (G.land.leaves (name j) l ≡ true) × (G.land.to (name j) l ≡ name v) × (w ≡ G.time l)
  pub legs : (j l : ℕ) → j < m.nodes → G.land.leaves (name j) l ≡ true → s.closed (G.land.to (name j) l) ≡ true →
      (v : ℕ) × (l < m.numbers j) × (m.arc j l ≡ Some (v, G.time l)) × (v < m.nodes) × (name v ≡ G.land.to (name j) l)
  pub seed : (j : ℕ) → j < m.nodes → value (counts most) seeds j < most →
      (l : ℕ) × (G.land.leaves (name j) l ≡ true) × (s.listed (G.land.to (name j) l) ≡ true) × (value (counts most) seeds j ≡ G.time l + h (G.land.to (name j) l))
  pub seed_least : (j l : ℕ) → j < m.nodes → G.land.leaves (name j) l ≡ true → s.listed (G.land.to (name j) l) ≡ true
      → value (counts most) seeds j ≤ G.time l + h (G.land.to (name j) l)

module _ (G : Ground) (s : Search) (h : ℕ → ℕ) (most : ℕ) (m : Meaning ℕ) (name : ℕ → ℕ) (seeds results : List ℕ)
    (net : ClosedNet G s h most m name seeds) (best : IsBest (counts most) m seeds results) (apart : (p : ℕ) → s.listed p ≡ true → s.closed p ≡ false) where
  abbrev pub res : ℕ → ℕ
  res j = value (counts most) results j

  by_seed : (j : ℕ) → j < m.nodes → min (res j) most ≤ min (value (counts most) seeds j) most
  by_seed j lt = best.least j j [] lt refl

  by_arc : (j l v w : ℕ) → j < m.nodes → l < m.numbers j → m.arc j l ≡ Some (v, w) → v < m.nodes → min (res j) most ≤ min (res v + w) most
  by_arc j l v w lt lo e low = ⊎_elim
      (λ (past : most < res v). omega (arith, past))
      (λ (le : res v ≤ most). ⊎_elim
      (λ (none : res v ≡ most). omega (arith, none))
      (λ (r : Reached (counts most) m seeds v (res v)). omega (arith, best.least j r.0 ((v, w) ∷ r.1) lt ((l, lo, e), r.3), r.5))
      (best.reached v low (le-leb _ _ le)))
      (cases_lt most (res v))

  low : (ls : List ℕ) (j o : ℕ) → j < m.nodes → Through G.land s (name j) ls o → min (res j) most ≤ cost G ls + h o
  low [] j o lt t = absurd (both_ways _ (apart (name j) t.0) (net.closed j lt))
  low (l ∷ []) j o lt t =
      let q = net.seed_least j l lt t.1 t.2.0 in
      omega (arith, by_seed j lt, q, ap h t.2.1)
  low (l ∷ k ∷ ls) j o lt t =
      let a = net.legs j l lt t.1 t.2.0 in
      let r = low (k ∷ ls) a.0 o a.3 (subst (λ (x : ℕ). Through G.land s x (k ∷ ls) o) (sym a.4) t.2) in
      omega (arith, r, by_arc j l a.0 (G.time l) lt a.1 a.2 a.3)

  module _ (small : (j : ℕ) → j < m.nodes → (ls : List ℕ) × (o : ℕ) × Through G.land s (name j) ls o × (cost G ls + h o < most)) where
    under : (j : ℕ) → j < m.nodes → res j < most
    under j lt = let t = small j lt in omega (arith, low t.0 j t.1 lt t.2, t.3)

    module _ (h' : ℕ → ℕ) (same : (p : ℕ) → s.closed p ≡ false → h' p ≡ h p) (new : (j : ℕ) → j < m.nodes → h' (name j) ≡ res j) where
      abbrev Given : ℕ → Type 0
      Given p = (l : ℕ) × (G.land.leaves p l ≡ true) × Seen s (G.land.to p l) × (h' p ≡ G.time l + h' (G.land.to p l))

      -- the first leg of the path that a result came by
      gives : (path : List (ℕ × ℕ)) (j x : ℕ) → j < m.nodes → Way m j path x → value (counts most) seeds x < most
          → res j ≡ back (counts most) path (value (counts most) seeds x) → Given (name j)
      gives [] j x lt e seed-low is =
          let sd : value (counts most) seeds j < most = omega (arith, ap (value (counts most) seeds) e, seed-low) in
          let a = net.seed j lt sd in
          (a.0, a.1, inl a.2, omega (arith, new j lt, is, ap (value (counts most) seeds) e, a.3, same _ (apart _ a.2)))
      gives ((v, w) ∷ path) j x lt e seed-low is =
          let arc = e.0 in
          let a = net.arcs j arc.0 v w lt arc.2 in
          let here = under j lt in
          let there : min (res v) most ≤ min (back (counts most) path (value (counts most) seeds x)) most = rest path v x a.0 e.1 in
          let up = by_arc j arc.0 v w lt arc.1 arc.2 a.0 in
          let vl = under v a.0 in (
            arc.0,
            a.1,
            inr (ap s.closed a.2 ∙ net.closed v a.0),
            omega (arith, new j lt, new v a.0, ap h' a.2, a.3, is, there, up, here, vl),
          )
        where
          rest : (path : List (ℕ × ℕ)) (v x : ℕ) → v < m.nodes → Way m v path x
              → min (res v) most ≤ min (back (counts most) path (value (counts most) seeds x)) most
          rest path v x lo e = best.least v x path lo e

      given_at : (j : ℕ) → j < m.nodes → Given (name j)
      given_at j lt =
          let u = under j lt in
          ⊎_elim
          (λ (none : res j ≡ most). absurd (omega (arith, none, u)))
          (λ (r : Reached (counts most) m seeds j (res j)). gives r.1 j r.0 lt r.3 (omega (arith, r.4)) r.5)
          (best.reached j lt (le-leb _ _ (omega (arith, u))))

      settled : Settled G s h h'
      settled = record {
        kept = same;
        apart = apart;
        no_better = λ p l c lv seen.
            let n = net.named p c in
            let j = n.0 in
            let lv' : G.land.leaves (name j) l ≡ true = ap (λ (x : ℕ). G.land.leaves x l) n.2 ∙ lv in
            let to = ap (λ (x : ℕ). G.land.to x l) n.2 in
            let is = new j n.1 in
            let u = under j n.1 in
            ⊎_elim
            (λ (a : s.listed (G.land.to p l) ≡ true).
            let a' = ap s.listed to ∙ a in
            omega (arith, by_seed j n.1, net.seed_least j l n.1 lv' a', u, is, ap h' n.2, ap h to, same _ (apart _ a)))
            (λ (a : s.closed (G.land.to p l) ≡ true).
            let b = net.legs j l n.1 lv' (ap s.closed to ∙ a) in
            omega (arith, by_arc j l b.0 (G.time l) n.1 b.1 b.2 b.3, u, is, ap h' n.2, new b.0 b.3, ap h' b.4, ap h' to))
            seen;
        given = λ p c. let n = net.named p c in subst Given n.2 (given_at n.0 n.1);
      }

      pub best_updates : Sound G → Updated G s h h'
      best_updates sound = settles G s h h' sound settled

-- LIVENESS

-- The pairs are the nodes, the legs the arcs, the goals the seeds.
pub record PairNet (L : Land) (m : Meaning Unit) (seeds : List Bool) : Type 0 where
  pub nodes : m.nodes ≡ L.pairs
  pub arcs : (p l v : ℕ) (w : Unit) → p < L.pairs → m.arc p l ≡ Some (v, w) → (L.leaves p l ≡ true) × (v ≡ L.to p l)
  pub legs : (p l : ℕ) → p < L.pairs → L.leaves p l ≡ true → (l < m.numbers p) × (m.arc p l ≡ Some (L.to p l, tt))
  pub seeded : (p : ℕ) → p < L.pairs → get_or seeds p false ≡ L.goal p

module _ (L : Land) (within : (p l : ℕ) → p < L.pairs → L.leaves p l ≡ true → L.to p l < L.pairs) (m : Meaning Unit) (seeds results : List Bool) (net : PairNet L m seeds) (best : IsBest answers m seeds results) where
  there : (ls : List ℕ) (p q : ℕ) → p < L.pairs → Path L p ls q → (way : List (ℕ × Unit)) × Way m p way q × (q < L.pairs)
  there [] p q lt e = ([], e, subst (λ (x : ℕ). x < L.pairs) e lt)
  there (l ∷ ls) p q lt e =
      let a = net.legs p l lt e.0 in
      let r = there ls (L.to p l) q (within p l lt e.0) e.1 in
      ((L.to p l, tt) ∷ r.0, ((l, a.0, a.1), r.1), r.2)

  again : (way : List (ℕ × Unit)) (p q : ℕ) → p < L.pairs → Way m p way q → (ls : List ℕ) × Path L p ls q × (q < L.pairs)
  again [] p q lt e = ([], e, subst (λ (x : ℕ). x < L.pairs) e lt)
  again ((v, w) ∷ way) p q lt e =
      let k = e.0.0 in
      let a = net.arcs p k v w lt e.0.2 in
      let r = again way (L.to p k) q (within p k lt a.0) (subst (λ (x : ℕ). Way m x way q) a.1 e.1) in
      (k ∷ r.0, (a.0, r.1), r.2)

  flat : (way : List (ℕ × Unit)) (b : Bool) → back answers way b ≡ b
  flat [] b = refl
  flat (e ∷ way) b = flat way b

  rank_true : (b : Bool) → cond {A = ℕ} b 0 1 < 1 → b ≡ true
  rank_true true lt = refl
  rank_true false lt = absurd (omega (arith, lt))

  pub best_lives : (p : ℕ) → p < L.pairs → Decides (get_or results p false) (Live L p)
  best_lives p lt =
      let lo : p < m.nodes = omega (arith, lt, net.nodes) in (
        λ yes. ⊎_elim
            (λ (none : get_or results p false ≡ false). absurd (both_ways _ none yes))
            (λ (r : Reached answers m seeds p (get_or results p false)).
            let a = again r.1 p r.0 lt r.3 in
            (a.0, r.0, a.1, sym (net.seeded r.0 a.2) ∙ rank_true _ r.4))
            (best.reached p lo refl),
        λ lf.
            let w = there lf.0 p lf.1 lt lf.2 in
            let g = net.seeded lf.1 w.2 ∙ lf.3 in
            rank_true _ (omega (arith, best.least p lf.1 w.0 lo w.1, ap (λ (b : Bool). cond {A = ℕ} b 0 1) (flat w.0 (get_or seeds lf.1 false) ∙ g))),
      )
