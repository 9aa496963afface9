-- A guide that no leg betters, and that some leg gives at each closed pair, is the one that a decision leaves.
use Rattle.std.proofs.Common.{◌≡◌, ℕ, zero, suc, ◌+◌, ◌<◌, ◌≤◌, Bool, true, false, not, ◌&&◌, ◌||◌, eqb, leb, List, [], ◌∷◌, sym, refl, ap, ◌∙◌, inl, inr, ⊎_elim, arith}
use Rattle.std.proofs.lemmas.Bool.{cases_lt, both_ways, and_parts, and_cases, or_cases, or_parts, leb-true, eqb-true, not-true}
use Rattle.law.specs.Grounds.{Land, Ground, Live, cost}
use Rattle.law.specs.Guides.{Agrees}
use Rattle.law.specs.Searches.{Search, Through, Updated}
use Rattle.law.proofs.Paths.{Sound}
use Rattle.law.proofs.Searching.{Seen}

-- every number below n passes, or some does
abbrev pub every : (ℕ → Bool) → ℕ → Bool
every t zero = true
every t (suc n) = every t n && t n

abbrev pub some : (ℕ → Bool) → ℕ → Bool
some t zero = false
some t (suc n) = some t n || t n

pub every_is : (t : ℕ → Bool) (n : ℕ) → every t n ≡ true → (k : ℕ) → k < n → t k ≡ true
every_is t zero e k lt = absurd (omega arith)
every_is t (suc n) e k lt =
    let r = and_parts (every t n) (t n) e in
    ⊎_elim (λ (lo : k < n). every_is t n r.0 k lo) (λ (le : n ≤ k). let is : n ≡ k = omega arith in ap t (sym is) ∙ r.1) (cases_lt k n)

some_is : (t : ℕ → Bool) (n : ℕ) → some t n ≡ true → (k : ℕ) × (k < n) × (t k ≡ true)
some_is t zero e = absurd (both_ways false refl e)
some_is t (suc n) e = ⊎_elim
    (λ (a : some t n ≡ true). let r = some_is t n a in (r.0, omega (arith, r.1), r.2))
    (λ (a : t n ≡ true). (n, omega arith, a))
    (or_cases (some t n) (t n) e)

module _ (G : Ground) (s : Search) (h h' : ℕ → ℕ) where
  pub record Settled : Type 0 where
    pub kept : (p : ℕ) → s.closed p ≡ false → h' p ≡ h p
    pub apart : (p : ℕ) → s.listed p ≡ true → s.closed p ≡ false
    pub no_better : (p l : ℕ) → s.closed p ≡ true → G.land.leaves p l ≡ true → Seen s (G.land.to p l) → h' p ≤ G.time l + h' (G.land.to p l)
    pub given : (p : ℕ) → s.closed p ≡ true
        → (l : ℕ) × (G.land.leaves p l ≡ true) × Seen s (G.land.to p l) × (h' p ≡ G.time l + h' (G.land.to p l))

  module _ (sound : Sound G) (settled : Settled) where
    head : (ls : List ℕ) (p o : ℕ) → Through G.land s p ls o → Seen s p
    head [] p o t = inl t.0
    head (l ∷ ls) p o t = inr t.0

    low : (ls : List ℕ) (p o : ℕ) → Through G.land s p ls o → h' p ≤ cost G ls + h o
    low [] p o t = omega (arith, settled.kept p (settled.apart p t.0), ap h t.1)
    low (l ∷ ls) p o t = omega (arith, settled.no_better p l t.0 t.1 (head ls _ o t.2), low ls (G.land.to p l) o t.2)

    come : (n p : ℕ) → h' p < n → s.closed p ≡ true → (ls : List ℕ) × (o : ℕ) × Through G.land s p ls o × (h' p ≡ cost G ls + h o)
    come zero p lt c = absurd (omega arith)
    come (suc n) p lt c =
        let g = settled.given p c in
        let l = g.0 in
        ⊎_elim
        (λ (a : s.listed (G.land.to p l) ≡ true). (l ∷ [], G.land.to p l, (c, g.1, (a, refl)), omega (arith, g.3, settled.kept _ (settled.apart _ a))))
        (λ (a : s.closed (G.land.to p l) ≡ true).
        let r = come n (G.land.to p l) (omega (arith, g.3, lt, sound.takes l (sound.counted p l g.1))) a in
        (l ∷ r.0, r.1, (c, g.1, r.2), omega (arith, g.3, r.3)))
        g.2

    pub settles : Updated G s h h'
    settles = record { kept = settled.kept; reached = λ p c. come (suc (h' p)) p (omega arith) c; lowest = λ p o ls c t. low ls p o t }

-- the same as a test
module _ (G : Ground) (s : Search) (h h' : ℕ → ℕ) where
  abbrev seen : ℕ → Bool
  seen q = s.listed q || s.closed q

  abbrev bettered : ℕ → ℕ → Bool
  bettered p l = not (G.land.leaves p l && seen (G.land.to p l)) || leb (h' p) (G.time l + h' (G.land.to p l))

  abbrev gives : ℕ → ℕ → Bool
  gives p l = G.land.leaves p l && seen (G.land.to p l) && eqb (h' p) (G.time l + h' (G.land.to p l))

  abbrev fits-at : ℕ → Bool
  fits-at p = (s.closed p || eqb (h' p) (h p)) && (not (s.listed p) || not (s.closed p)) && (not (s.closed p) || (every (bettered p) G.land.legs && some (gives p) G.land.legs))

  abbrev pub fits : Bool
  fits = every fits-at G.land.pairs

  fits_settled : ((p : ℕ) → G.land.pairs ≤ p → (s.closed p ≡ false) × (s.listed p ≡ false) × (h' p ≡ h p)) → Sound G → fits ≡ true
      → Settled G s h h'
  fits_settled past sound e =
      let at_pair : (p : ℕ) → p < G.land.pairs → ((s.closed p || eqb (h' p) (h p)) ≡ true) × ((not (s.listed p) || not (s.closed p)) ≡ true) × ((not (s.closed p) || (every (bettered p) G.land.legs && some (gives p) G.land.legs)) ≡ true)
      = λ p lt. let r = and_parts _ _ (every_is fits-at G.land.pairs e p lt) in let q = and_parts _ _ r.0 in (q.0, q.1, r.1) in
      let tested : (p : ℕ) → s.closed p ≡ true → (every (bettered p) G.land.legs ≡ true) × (some (gives p) G.land.legs ≡ true)
      = λ p c. ⊎_elim
      (λ (lt : p < G.land.pairs). ⊎_elim
      (λ (no : not (s.closed p) ≡ true). absurd (both_ways _ (not-true _ no) c))
      (λ (a : (every (bettered p) G.land.legs && some (gives p) G.land.legs) ≡ true). and_parts _ _ a)
      (or_cases _ _ (at_pair p lt).2))
      (λ (le : G.land.pairs ≤ p). absurd (both_ways _ (past p le).0 c))
      (cases_lt p G.land.pairs) in
      record {
        kept = λ p c. ⊎_elim
            (λ (lt : p < G.land.pairs). ⊎_elim (λ (y : s.closed p ≡ true). absurd (both_ways _ c y)) (λ (y : eqb (h' p) (h p) ≡ true). eqb-true _ _ y) (or_cases _ _ (at_pair p lt).0))
            (λ (le : G.land.pairs ≤ p). (past p le).2)
            (cases_lt p G.land.pairs);
        apart = λ p a. ⊎_elim
            (λ (lt : p < G.land.pairs). ⊎_elim (λ (y : not (s.listed p) ≡ true). absurd (both_ways _ (not-true _ y) a)) (λ (y : not (s.closed p) ≡ true). not-true _ y) (or_cases _ _ (at_pair p lt).1))
            (λ (le : G.land.pairs ≤ p). (past p le).0)
            (cases_lt p G.land.pairs);
        no_better = λ p l c lv there.
            let t = every_is (bettered p) G.land.legs (tested p c).0 l (sound.counted p l lv) in
            ⊎_elim
            (λ (no : not (G.land.leaves p l && seen (G.land.to p l)) ≡ true). ⊎_elim
            (λ (x : G.land.leaves p l ≡ false). absurd (both_ways _ x lv))
            (λ (x : seen (G.land.to p l) ≡ false).
            let y = or_parts _ _ x in
            ⊎_elim (λ (z : s.listed (G.land.to p l) ≡ true). absurd (both_ways _ y.0 z)) (λ (z : s.closed (G.land.to p l) ≡ true). absurd (both_ways _ y.1 z)) there)
            (and_cases _ _ (not-true _ no)))
            (λ (y : leb (h' p) (G.time l + h' (G.land.to p l)) ≡ true). leb-true _ _ y)
            (or_cases _ _ t);
        given = λ p c.
            let r = some_is (gives p) G.land.legs (tested p c).1 in
            let a = and_parts _ _ r.2 in
            let b = and_parts _ _ a.0 in
            (r.0, b.0, or_cases _ _ b.1, eqb-true _ _ a.1);
      }

  pub fits_updates : ((p : ℕ) → G.land.pairs ≤ p → (s.closed p ≡ false) × (s.listed p ≡ false) × (h' p ≡ h p)) → Sound G
      → fits ≡ true → Updated G s h h'
  fits_updates past sound e = settles G s h h' sound (fits_settled past sound e)

-- a path as a test
abbrev pub walks : Land → ℕ → List ℕ → Bool
walks L p [] = L.goal p
walks L p (l ∷ ls) = L.leaves p l && walks L (L.to p l) ls

pub walks_live : (L : Land) (ls : List ℕ) (p : ℕ) → walks L p ls ≡ true → Live L p
walks_live L [] p e = ([], p, refl, e)
walks_live L (l ∷ ls) p e =
    let r = and_parts (L.leaves p l) (walks L (L.to p l) ls) e in
    let v = walks_live L ls (L.to p l) r.1 in
    (l ∷ v.0, v.1, (r.0, v.2), v.3)

-- agreement as a test
abbrev pub agreeing : Ground → (ℕ → ℕ) → Bool
agreeing G h = every (λ p. (not (G.land.goal p) || eqb (h p) 0) && every (λ l. not (G.land.leaves p l) || leb (h p) (G.time l + h (G.land.to p l))) G.land.legs) G.land.pairs

pub agreeing_agrees : (G : Ground) (h : ℕ → ℕ) → Sound G → agreeing G h ≡ true → Agrees G h
agreeing_agrees G h sound e = record {
  goals = λ p lt g. let r = and_parts _ _ (every_is _ G.land.pairs e p lt) in
      ⊎_elim (λ (no : not (G.land.goal p) ≡ true). absurd (both_ways _ (not-true _ no) g)) (λ (y : eqb (h p) 0 ≡ true). eqb-true _ _ y) (or_cases _ _ r.0);
  legs = λ p l lt lv lf. let r = and_parts _ _ (every_is _ G.land.pairs e p lt) in
      let t = every_is _ G.land.legs r.1 l (sound.counted p l lv) in
      ⊎_elim (λ (no : not (G.land.leaves p l) ≡ true). absurd (both_ways _ (not-true _ no) lv)) (λ (y : leb (h p) (G.time l + h (G.land.to p l)) ≡ true). leb-true _ _ y) (or_cases _ _ t);
}
