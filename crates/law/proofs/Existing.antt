-- A decision has a result, and one only.
use Rattle.std.proofs.Common.{◌≡◌, ℕ, zero, suc, ◌+◌, ◌-◌, ◌<◌, ◌≤◌, true, false, ◌⊎◌, List, [], ◌∷◌, map, length, sym, refl, ap, ◌∙◌, subst, inl, inr, ⊎_elim, arith}
use Rattle.std.specs.List.{range_with_len}
use Rattle.std.proofs.lemmas.List.FromFn.{length-map-range_with_len, get_or-map-range_with_len}
use Rattle.std.proofs.lemmas.List.{get_or_past, ext_get_or}
use Rattle.std.proofs.lemmas.Bool.{cases_lt, cases_eq, cases_Bool, both_ways}
use Rattle.law.specs.Grounds.{Ground, Path, cost}
use Rattle.law.specs.Guides.{dead, at}
use Rattle.law.specs.Searches.{Search, Through, Updated}
use Rattle.law.proofs.Paths.{Sound}
use Rattle.law.proofs.Searching.{Seen, Whole}

abbrev Either : Type 0 → Type 0
Either P = P ⊎ (P → ⊥)

-- the first number below n, if any
module _ (P : ℕ → Type 0) where
  abbrev First : ℕ → Type 0
  First v = P v × ((u : ℕ) → u < v → P u → ⊥)

  first : (n : ℕ) → ((v : ℕ) → v < n → Either (P v)) → ((v : ℕ) × (v < n) × First v) ⊎ ((v : ℕ) → v < n → P v → ⊥)
  first zero test = inr (λ v lt p. omega arith)
  first (suc n) test = ⊎_elim
      (λ (f : (v : ℕ) × (v < n) × First v). inl (f.0, omega (arith, f.1), f.2))
      (λ (no : (v : ℕ) → v < n → P v → ⊥). ⊎_elim
      (λ (p : P n). inl (n, omega arith, (p, no)))
      (λ (np : P n → ⊥). inr (λ v lt p. ⊎_elim (λ (e : v ≡ n). np (subst P e p)) (λ (ne : v ≡ n → ⊥). no v (omega arith) p) (cases_eq v n)))
      (test n (omega arith)))
      (first n (λ v lt. test v (omega arith)))

module _ (G : Ground) (sound : Sound G) (s : Search) (h : ℕ → ℕ) where
  -- v is the sum of some path through closed pairs
  abbrev pub Sum : ℕ → ℕ → Type 0
  Sum p v = (ls : List ℕ) × (o : ℕ) × Through G.land s p ls o × (v ≡ cost G ls + h o)

  abbrev By : ℕ → ℕ → ℕ → Type 0
  By p v l = (G.land.leaves p l ≡ true) × (G.time l ≤ v) × Sum (G.land.to p l) (v - G.time l)

  -- each leg takes time, so a sum is looked for among few paths
  by_leg : (n p v : ℕ) → v < suc n → ((q u : ℕ) → u < n → Either (Sum q u)) → (l : ℕ) → l < G.land.legs → Either (By p v l)
  by_leg n p v lt test l lo = ⊎_elim
      (λ (a : G.land.leaves p l ≡ true). ⊎_elim
      (λ (less : v < G.time l). inr (λ b. omega (arith, less, b.1)))
      (λ (le : G.time l ≤ v). ⊎_elim
      (λ (m : Sum (G.land.to p l) (v - G.time l)). inl (a, le, m))
      (λ (no : Sum (G.land.to p l) (v - G.time l) → ⊥). inr (λ b. no b.2))
      (test (G.land.to p l) (v - G.time l) (omega (arith, sound.takes l lo, lt))))
      (cases_lt v (G.time l)))
      (λ (a : G.land.leaves p l ≡ false). inr (λ b. both_ways _ a b.0))
      (cases_Bool (G.land.leaves p l))

  sum_closed : (p v : ℕ) → s.closed p ≡ true → (s.listed p ≡ true → h p ≡ v → ⊥)
      → ((l : ℕ) × (l < G.land.legs) × By p v l) ⊎ ((l : ℕ) → l < G.land.legs → By p v l → ⊥) → Either (Sum p v)
  sum_closed p v c off any = ⊎_elim
      (λ (f : (l : ℕ) × (l < G.land.legs) × By p v l).
      let b = f.2 in
      let m = b.2 in
      inl (f.0 ∷ m.0, m.1, (c, b.0, m.2), omega (arith, b.1, m.3)))
      (λ (none : (l : ℕ) → l < G.land.legs → By p v l → ⊥). inr (λ m. not_any m none))
      any
    where
      not_any : Sum p v → ((l : ℕ) → l < G.land.legs → By p v l → ⊥) → ⊥
      not_any ([], o, t, e) none = off t.0 (omega (arith, ap h t.1, e))
      not_any (l ∷ ls, o, t, e) none = none l (sound.counted p l t.1) (t.1, omega (arith, e), (ls, o, t.2, omega (arith, e)))

  sum_other : (p v : ℕ) → s.closed p ≡ false → (s.listed p ≡ true → h p ≡ v → ⊥) → Sum p v → ⊥
  sum_other p v c off ([], o, t, e) = off t.0 (omega (arith, ap h t.1, e))
  sum_other p v c off (l ∷ ls, o, t, e) = both_ways _ c t.0

  here_or : (p v : ℕ) → Sum p v ⊎ (s.listed p ≡ true → h p ≡ v → ⊥)
  here_or p v = ⊎_elim
      (λ (a : s.listed p ≡ true). ⊎_elim
      (λ (e : h p ≡ v). inl ([], p, (a, refl), omega (arith, e)))
      (λ (ne : h p ≡ v → ⊥). inr (λ _. ne))
      (cases_eq (h p) v))
      (λ (a : s.listed p ≡ false). inr (λ b _. both_ways _ a b))
      (cases_Bool (s.listed p))

  sums : (n p v : ℕ) → v < n → Either (Sum p v)
  sums zero p v lt = absurd (omega arith)
  sums (suc n) p v lt =
      let legs = first (By p v) G.land.legs (by_leg n p v lt (sums n)) in
      ⊎_elim
      (λ (m : Sum p v). inl m)
      (λ (off : s.listed p ≡ true → h p ≡ v → ⊥). ⊎_elim
      (λ (c : s.closed p ≡ true). sum_closed p v c off (⊎_elim
      (λ (f : (l : ℕ) × (l < G.land.legs) × First (By p v) l). inl (f.0, f.1, f.2.0))
      (λ (no : (l : ℕ) → l < G.land.legs → By p v l → ⊥). inr no)
      legs))
      (λ (c : s.closed p ≡ false). inr (sum_other p v c off))
      (cases_Bool (s.closed p)))
      (here_or p v)

  -- the least sum
  least_sum : (p v : ℕ) → Sum p v → (u : ℕ) × Sum p u × ((w : ℕ) → Sum p w → u ≤ w)
  least_sum p v m = ⊎_elim
      (λ (f : (u : ℕ) × (u < suc v) × First (Sum p) u).
      (f.0, f.2.0, λ w n. ⊎_elim (λ (lt : w < f.0). absurd (f.2.1 w lt n)) (λ (le : f.0 ≤ w). le) (cases_lt w f.0)))
      (λ (no : (u : ℕ) → u < suc v → Sum p u → ⊥). absurd (no v (omega arith) m))
      (first (Sum p) (suc v) (λ u lt. sums (suc v) p u lt))

  -- what a pair's guide becomes
  abbrev Renewed : ℕ → ℕ → Type 0
  Renewed p v = (s.closed p ≡ false → v ≡ h p) × (s.closed p ≡ true → Sum p v) × ((w : ℕ) → s.closed p ≡ true → Sum p w → v ≤ w)

  module _ (some : (p : ℕ) → s.closed p ≡ true → (v : ℕ) × Sum p v) where
    renewed : (p : ℕ) → (v : ℕ) × Renewed p v
    renewed p = ⊎_elim
        (λ (c : s.closed p ≡ true). let b = least_sum p (some p c).0 (some p c).1 in (b.0, (λ no. absurd (both_ways _ no c), (λ _. b.1), λ w _ m. b.2 w m)))
        (λ (c : s.closed p ≡ false). (h p, (λ _. refl, (λ yes. absurd (both_ways _ c yes)), λ w yes m. absurd (both_ways _ c yes))))
        (cases_Bool (s.closed p))

    updates : (h' : ℕ → ℕ) → ((p : ℕ) → Renewed p (h' p)) → Updated G s h h'
    updates h' each = record {
      kept = λ p c. (each p).0 c;
      reached = λ p c. (each p).1 c;
      lowest = λ p o ls c t. (each p).2 (cost G ls + h o) c (ls, o, t, refl);
    }

module _ (G : Ground) (h : ℕ → ℕ) (here : ℕ) (sound : Sound G) (s : Search) (whole : Whole G h here false s) where
  -- a path to a goal leaves the closed pairs
  out : (ls : List ℕ) (p q : ℕ) → Seen s p → Path G.land p ls q → G.land.goal q ≡ true → (v : ℕ) × Sum G sound s h p v
  out [] p q seen e g = ⊎_elim
      (λ (a : s.listed p ≡ true). (h p, ([], p, (a, refl), omega arith)))
      (λ (c : s.closed p ≡ true). absurd (both_ways _ (whole.no_goal p c) (ap G.land.goal e ∙ g)))
      seen
  out (l ∷ ls) p q seen e g = ⊎_elim
      (λ (a : s.listed p ≡ true). (h p, ([], p, (a, refl), omega arith)))
      (λ (c : s.closed p ≡ true).
      let next = (whole.done p l c (λ _. sound.counted p l e.0) e.0 (ls, q, e.1, g)).0 in
      let m = (out ls (G.land.to p l) q next e.1 g).1 in
      (G.time l + cost G m.0 + h m.1, (l ∷ m.0, m.1, (c, e.0, m.2), refl)))
      seen

  some_sum : (p : ℕ) → s.closed p ≡ true → (v : ℕ) × Sum G sound s h p v
  some_sum p c = let v = (whole.within p (inr c)).1 in out v.0 p v.1 (inr c) v.2 v.3

  -- the guide afterwards as a function
  pub after : (h' : ℕ → ℕ) × Updated G s h h'
  after = (λ p. (renewed G sound s h some_sum p).0, updates G sound s h some_sum (λ p. (renewed G sound s h some_sum p).0) (λ p. (renewed G sound s h some_sum p).1))

  pub renewal : (n : ℕ) → ((p : ℕ) → n ≤ p → h p ≡ dead) → ((p : ℕ) → s.closed p ≡ true → p < n)
      → (guide : List ℕ) × (length guide ≡ n) × Updated G s h (at guide)
  renewal n past low =
      let new : ℕ → ℕ = λ p. (renewed G sound s h some_sum p).0 in
      let guide = map new (range_with_len 0 n) in (
        guide,
        length-map-range_with_len new 0 n,
        updates G sound s h some_sum (at guide) (λ p. ⊎_elim
            (λ (lt : p < n). subst (Renewed G sound s h p) (sym (get_or-map-range_with_len new 0 n p p dead lt (omega arith))) (renewed G sound s h some_sum p).1)
            (λ (le : n ≤ p).
            let is : at guide p ≡ dead = get_or_past guide p dead (omega (arith, le, length-map-range_with_len new 0 n)) in
            (λ _. is ∙ sym (past p le), (λ c. absurd (omega (arith, low p c, le))), λ w c m. absurd (omega (arith, low p c, le))))
            (cases_lt p n)),
      )

-- only one
module _ (G : Ground) (s : Search) (h : ℕ → ℕ) where
  below : (h₁ h₂ : ℕ → ℕ) → Updated G s h h₁ → Updated G s h h₂ → (p : ℕ) → h₁ p ≤ h₂ p
  below h₁ h₂ a b p = ⊎_elim
      (λ (c : s.closed p ≡ true). let r = b.reached p c in omega (arith, a.lowest p r.1 r.0 c r.2, r.3))
      (λ (c : s.closed p ≡ false). omega (arith, a.kept p c, b.kept p c))
      (cases_Bool (s.closed p))

  pub one_renewal : (g₁ g₂ : List ℕ) → length g₁ ≡ length g₂ → Updated G s h (at g₁) → Updated G s h (at g₂) → g₁ ≡ g₂
  one_renewal g₁ g₂ e a b = ext_get_or dead g₁ g₂ e (λ p _. omega (arith, below (at g₁) (at g₂) a b p, below (at g₂) (at g₁) b a p))
