-- Guides along paths: admissible, and bounded by a path that comes to no pair twice.
use Rattle.std.proofs.Common.{◌≡◌, ℕ, zero, suc, ◌+◌, ◌-◌, ◌*◌, ◌<◌, ◌≤◌, Bool, true, false, cond, ◌⊎◌, List, [], ◌∷◌, length, set, sym, ap, ◌∙◌, subst, inl, inr, ⊎_elim, le_refl, add-mul, arith}
use Rattle.std.proofs.lemmas.Nat.{mul-le}
use Rattle.std.proofs.lemmas.List.{get_or-set_other, get_or-set_same, get_or_past}
use Rattle.std.proofs.lemmas.List.Sums.{sum_by-set, sum_by-cons, get_or-le-sum_by}
use Rattle.std.proofs.lemmas.Bool.{cases_lt, cases_eq, cases_Bool, both_ways}
use Rattle.law.specs.Grounds.{Ground, Path, cost, Live, dearest}
use Rattle.law.specs.Guides.{dead, at, live, lives, total, Agrees}

-- Legs lead from pairs to pairs, and take time.
pub record Sound (G : Ground) : Type 0 where
  pub within : (p l : ℕ) → p < G.land.pairs → G.land.leaves p l ≡ true → G.land.to p l < G.land.pairs
  pub counted : (p l : ℕ) → G.land.leaves p l ≡ true → l < G.land.legs
  pub takes : (l : ℕ) → l < G.land.legs → 1 ≤ G.time l

abbrev one : ℕ → ℕ
one n = cond (live n) 1 0

abbrev worth : ℕ → ℕ
worth n = cond (live n) n 0

-- a marked pair stands in the list
pub placed : (guide : List ℕ) (p : ℕ) → live (at guide p) ≡ true → p < length guide
placed guide p e = ⊎_elim (λ (lt : p < length guide). lt) (λ (le : length guide ≤ p). absurd (both_ways (live (at guide p)) (ap live (get_or_past guide p dead le)) e)) (cases_lt p (length guide))

module _ (G : Ground) where
  -- every leg leads to a marked pair
  abbrev pub Steps : List ℕ → ℕ → List ℕ → Type 0
  Steps marks x [] = Unit {0}
  Steps marks x (l ∷ ls) = (live (at marks (G.land.to x l)) ≡ true) × Steps marks (G.land.to x l) ls

  abbrev Avoids : ℕ → ℕ → List ℕ → Type 0
  Avoids v x [] = Unit {0}
  Avoids v x (l ∷ ls) = (G.land.to x l ≡ v → ⊥) × Avoids v (G.land.to x l) ls

  without : (marks : List ℕ) (v x : ℕ) (ls : List ℕ) → Steps marks x ls → Avoids v x ls → Steps (set marks v dead) x ls
  without marks v x [] a b = tt
  without marks v x (l ∷ ls) a b = (ap live (get_or-set_other marks v (G.land.to x l) dead dead b.0) ∙ a.0, without marks v (G.land.to x l) ls a.1 b.1)

  fewer : (marks : List ℕ) (v c : ℕ) → live (at marks v) ≡ true → lives marks ≤ suc c → lives (set marks v dead) ≤ c
  fewer marks v c e le = omega (arith, sum_by-set one marks v dead dead (placed marks v e), ap (λ (b : Bool). cond {A = ℕ} b 1 0) e, le)

  some : (marks : List ℕ) (v : ℕ) → live (at marks v) ≡ true → 1 ≤ lives marks
  some marks v e = omega (arith, get_or-le-sum_by one marks v dead (placed marks v e), ap (λ (b : Bool). cond {A = ℕ} b 1 0) e)

  abbrev Cut : List ℕ → ℕ → ℕ → Type 0
  Cut marks v q = (ls : List ℕ) × Path G.land v ls q × Steps marks v ls × Avoids v v ls

  -- a path that comes to v: from the last time on
  last : (marks : List ℕ) (v q : ℕ) (ls : List ℕ) (x : ℕ) → Path G.land x ls q → Steps marks x ls → Avoids v x ls ⊎ Cut marks v q
  last marks v q [] x p a = inl tt
  last marks v q (l ∷ ls) x p a = ⊎_elim
      (λ (av : Avoids v (G.land.to x l) ls). ⊎_elim
      (λ (here : G.land.to x l ≡ v). inr (ls, subst (λ (n : ℕ). Path G.land n ls q) here p.1, subst (λ (n : ℕ). Steps marks n ls) here a.1, subst (λ (n : ℕ). Avoids v n ls) here av))
      (λ (ne : G.land.to x l ≡ v → ⊥). inl (ne, av))
      (cases_eq (G.land.to x l) v))
      (λ (r : Cut marks v q). inr r)
      (last marks v q ls (G.land.to x l) p.1 a.1)

  from_last : (marks : List ℕ) (v q : ℕ) (ls : List ℕ) → Path G.land v ls q → Steps marks v ls → Cut marks v q
  from_last marks v q ls p a = ⊎_elim (λ (av : Avoids v v ls). (ls, p, a, av)) (λ (r : Cut marks v q). r) (last marks v q ls v p a)

  abbrev pub Short : ℕ → ℕ → ℕ → Type 0
  Short c x q = (ls : List ℕ) × Path G.land x ls q × (length ls ≤ c)

  shorten : (ls : List ℕ) (c : ℕ) (marks : List ℕ) → lives marks ≤ c → (x q : ℕ) → Path G.land x ls q → Steps marks x ls → Short c x q
  shorten [] c marks le x q p a = ([], p, omega arith)
  shorten (l ∷ ls) zero marks le x q p a = absurd (omega (arith, some marks (G.land.to x l) a.0, le))
  shorten (l ∷ ls) (suc c) marks le x q p a =
      let r = from_last marks (G.land.to x l) q ls p.1 a.1 in
      let t = shorten r.0 c (set marks (G.land.to x l) dead) (fewer marks (G.land.to x l) c a.0 le) (G.land.to x l) q r.1 (without marks (G.land.to x l) (G.land.to x l) r.0 r.2 r.3) in
      (l ∷ t.0, (p.0, t.1), omega (arith, t.2))

  -- from a marked pair: no longer than there are other marked pairs
  pub short : (ls : List ℕ) (marks : List ℕ) (x q : ℕ) → live (at marks x) ≡ true → Path G.land x ls q → Steps marks x ls
      → Short (lives marks - 1) x q
  short ls marks x q e p a =
      let r = from_last marks x q ls p a in
      let n = some marks x e in
      shorten r.0 (lives marks - 1) (set marks x dead) (fewer marks x (lives marks - 1) e (omega arith)) x q r.1 (without marks x x r.0 r.2 r.3)

  pub dearest_le : (n l : ℕ) → l < n → G.time l ≤ dearest G n
  dearest_le zero l lt = absurd (omega arith)
  dearest_le (suc n) l lt = ⊎_elim
      (λ (e : l ≡ n). omega (arith, ap G.time e))
      (λ (ne : l ≡ n → ⊥). omega (arith, dearest_le n l (omega arith)))
      (cases_eq l n)

  module _ (sound : Sound G) where
    -- a path of few legs costs little
    cost_le : (ls : List ℕ) (x q : ℕ) → Path G.land x ls q → cost G ls ≤ length ls * dearest G G.land.legs
    cost_le [] x q p = omega arith
    cost_le (l ∷ ls) x q p =
        let d = dearest G G.land.legs in
        let t = dearest_le G.land.legs l (sound.counted x l p.0) in
        let more : suc (length ls) * d ≡ d + length ls * d = omega (arith, add-mul 1 (length ls) d) in
        omega (arith, t, cost_le ls (G.land.to x l) q p.1, more)

    -- along a path the guide falls by no more than its cost
    module _ (h : ℕ → ℕ) (agrees : Agrees G h) where
      pub admissible : (ls : List ℕ) (p q : ℕ) → p < G.land.pairs → Path G.land p ls q → G.land.goal q ≡ true → h p ≤ cost G ls
      admissible [] p q lt e g = omega (arith, agrees.goals p lt (ap G.land.goal e ∙ g))
      admissible (l ∷ ls) p q lt e g =
          omega (arith, agrees.legs p l lt e.0 (ls, q, e.1, g), admissible ls (G.land.to p l) q (sound.within p l lt e.0) e.1 g)

    -- the guide is bounded at live pairs, and so is its sum
    module _ (marks : List ℕ) (marked : (p : ℕ) → p < G.land.pairs → Live G.land p → live (at marks p) ≡ true) where
      steps : (ls : List ℕ) (p q : ℕ) → p < G.land.pairs → Path G.land p ls q → G.land.goal q ≡ true → Steps marks p ls
      steps [] p q lt e g = tt
      steps (l ∷ ls) p q lt e g =
          let there = sound.within p l lt e.0 in
          (marked (G.land.to p l) there (ls, q, e.1, g), steps ls (G.land.to p l) q there e.1 g)

      pub bounded : (h : ℕ → ℕ) → Agrees G h → (p : ℕ) → p < G.land.pairs → Live G.land p → h p ≤ (lives marks - 1) * dearest G G.land.legs
      bounded h agrees p lt (ls, q, e, g) =
          let s = short ls marks p q (marked p lt (ls, q, e, g)) e (steps ls p q lt e g) in
          let d = dearest G G.land.legs in
          omega (arith, admissible h agrees s.0 p q lt s.1 g, cost_le s.0 p q s.1, mul-le (length s.0) d (lives marks - 1) d s.2 (le_refl d))

-- a sum over live pairs of numbers up to b
capped : (xs : List ℕ) (b : ℕ) → ((p : ℕ) → live (at xs p) ≡ true → at xs p ≤ b) → total xs ≤ lives xs * b
capped [] b each = omega arith
capped (x ∷ xs) b each =
    let rest = capped xs b (λ p. each (suc p)) in
    let s = sum_by-cons worth x xs in
    let n = sum_by-cons one x xs in
    let more : (one x + lives xs) * b ≡ one x * b + lives xs * b = add-mul (one x) (lives xs) b in
    let first : worth x ≤ one x * b = ⊎_elim
    (λ (e : live x ≡ true). omega (arith, each 0 e, ap (λ (c : Bool). cond {A = ℕ} c x 0) e, ap (λ (c : Bool). cond {A = ℕ} c 1 0 * b) e))
    (λ (e : live x ≡ false). omega (arith, ap (λ (c : Bool). cond {A = ℕ} c x 0) e))
    (cases_Bool (live x)) in
    omega (arith, rest, s, more, first, ap (λ (k : ℕ). k * b) n)

-- one of them is 0
pub capped_one : (xs : List ℕ) (b p : ℕ) → ((k : ℕ) → live (at xs k) ≡ true → at xs k ≤ b) → live (at xs p) ≡ true → at xs p ≡ 0
    → total xs ≤ (lives xs - 1) * b
capped_one xs b p each e z =
    let lt = placed xs p e in
    let s = sum_by-set worth xs p dead dead lt in
    let n = sum_by-set one xs p dead dead lt in
    let is1 = ap (λ (c : Bool). cond {A = ℕ} c 1 0) e in
    let is0 = ap (λ (c : Bool). cond {A = ℕ} c (at xs p) 0) e in
    let off : (k : ℕ) → live (at (set xs p dead) k) ≡ true → at (set xs p dead) k ≤ b = λ k f. ⊎_elim
    (λ (q : k ≡ p). absurd (both_ways _ (ap (λ (j : ℕ). live (at (set xs p dead) j)) q ∙ ap live (get_or-set_same xs p dead dead lt)) f))
    (λ (ne : k ≡ p → ⊥). let o = get_or-set_other xs p k dead dead ne in omega (arith, o, each k (sym (ap live o) ∙ f)))
    (cases_eq k p) in
    let few : lives (set xs p dead) ≡ lives xs - 1 = omega (arith, n, is1) in
    omega (arith, capped (set xs p dead) b off, s, is0, z, ap (λ (k : ℕ). k * b) few)
