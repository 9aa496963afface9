-- The top of the open list is first in its order, then in number; it is the only such pair.
use Rattle.std.proofs.Common.{◌≡◌, ℕ, zero, suc, ◌<◌, ◌≤◌, Bool, true, false, not, ◌&&◌, ◌||◌, eqb, sym, ap, ◌∙◌, ⊎_elim, arith}
use Rattle.std.proofs.lemmas.Bool.{cases_eq, cases_Bool, both_ways, cond_both, and_parts, and_cases, or_cases, or_parts, ltb-true, ltb-false, le-ltb, not-true, not-false, eq-eqb, ne_eqb, cond-true, cond-false}
use Rattle.law.specs.Grounds.{Ground}
use Rattle.law.specs.Searches.{Search, Order, put, f, plain, foremost, top}

module _ {X : Type 0} (g : ℕ → X) (p : ℕ) (x : X) where
  pub put_same : (q : ℕ) → q ≡ p → put g p x q ≡ x
  put_same q e = cond-true (eqb q p) x (g q) (eq-eqb q p e)

  pub put_other : (q : ℕ) → (q ≡ p → ⊥) → put g p x q ≡ g q
  put_other q ne = cond-false (eqb q p) x (g q) (ne_eqb q p ne)

-- a strict order whose ties are an equivalence
pub record Ordered (before : ℕ → ℕ → Bool) : Type 0 where
  pub one_way : (p q : ℕ) → before p q ≡ true → before q p ≡ false
  pub not_between : (p q t : ℕ) → before p q ≡ false → before q t ≡ false → before p t ≡ false

module _ (order : Order) (s : Search) (ordered : Ordered (order s)) where
  -- t is listed, no listed q goes before it, and a tie has no lower number
  abbrev pub Leads : ℕ → ℕ → Type 0
  Leads q t = (s.listed t ≡ true) × (order s q t ≡ false) × (order s t q ≡ false → t ≤ q)

  self : (p : ℕ) → order s p p ≡ false
  self p = ⊎_elim (λ (e : order s p p ≡ true). ordered.one_way p p e) (λ (e : order s p p ≡ false). e) (cases_Bool (order s p p))

  abbrev Wins : ℕ → ℕ → Bool
  Wins n t = s.listed n && (not (s.listed t) || order s n t)

  won : (n t q : ℕ) → Wins n t ≡ true → (q < n → Leads q t) → q < suc n → s.listed q ≡ true → Leads q n
  won n t q e rest lt on =
      let a = and_parts (s.listed n) _ e in
      ⊎_elim
      (λ (is : q ≡ n). (a.0, ap (λ (x : ℕ). order s x n) is ∙ self n, λ _. omega arith))
      (λ (ne : q ≡ n → ⊥).
      let r = rest (omega arith) in
      ⊎_elim
      (λ (no : not (s.listed t) ≡ true). absurd (both_ways (s.listed t) (not-true _ no) r.0))
      (λ (less : order s n t ≡ true).
      let clash : order s n q ≡ false → ⊥ = λ z. both_ways _ (ordered.not_between n q t z r.1) less in (
        a.0,
        ⊎_elim (λ (y : order s q n ≡ true). absurd (clash (ordered.one_way q n y))) (λ (y : order s q n ≡ false). y) (cases_Bool (order s q n)),
        λ z. absurd (clash z),
      ))
      (or_cases _ _ a.1))
      (cases_eq q n)

  kept : (n t q : ℕ) → t ≤ n → Wins n t ≡ false → (q < n → Leads q t) → q < suc n → s.listed q ≡ true → Leads q t
  kept n t q low e rest lt on = ⊎_elim
      (λ (is : q ≡ n). ⊎_elim
      (λ (off : s.listed n ≡ false). absurd (both_ways (s.listed n) off (ap s.listed (sym is) ∙ on)))
      (λ (no : (not (s.listed t) || order s n t) ≡ false).
      let r = or_parts _ _ no in
      (not-false _ r.0, ap (λ (x : ℕ). order s x t) is ∙ r.1, λ _. omega arith))
      (and_cases _ _ e))
      (λ (ne : q ≡ n → ⊥). rest (omega arith))
      (cases_eq q n)

  foremost_low : (n : ℕ) → foremost order s n ≤ n
  foremost_low zero = omega arith
  foremost_low (suc n) = cond_both (Wins n (foremost order s n)) n (foremost order s n) (λ (x : ℕ). x ≤ suc n) (λ _. omega arith) (λ _. omega (arith, foremost_low n))

  foremost_leads : (n q : ℕ) → q < n → s.listed q ≡ true → Leads q (foremost order s n)
  foremost_leads zero q lt on = absurd (omega arith)
  foremost_leads (suc n) q lt on =
      cond_both (Wins n (foremost order s n)) n (foremost order s n) (Leads q)
      (λ e. won n (foremost order s n) q e (λ lo. foremost_leads n q lo on) lt on)
      (λ e. kept n (foremost order s n) q (foremost_low n) e (λ lo. foremost_leads n q lo on) lt on)

  -- a pair that leads all is the top: what a heap has to show of its root
  pub top_only : (G : Ground) (t : ℕ) → t < G.land.pairs → s.listed t ≡ true → ((q : ℕ) → s.listed q ≡ true → Leads q t) → t ≡ top G order s
  top_only G t lt on first =
      let u = top G order s in
      let a = foremost_leads G.land.pairs t lt on in
      let b = first u a.0 in
      omega (arith, a.2 b.1, b.2 a.1)

module _ (h : ℕ → ℕ) (s : Search) where
  pub plain_ordered : Ordered (plain h s)
  plain_ordered = record {
    one_way = λ p q e. let l = ltb-true _ _ e in le-ltb _ _ (omega arith);
    not_between = λ p q t a b. let x = ltb-false _ _ a in let y = ltb-false _ _ b in le-ltb _ _ (omega arith);
  }

module _ (G : Ground) (h : ℕ → ℕ) (s : Search) where
  pub top_is : (q : ℕ) → q < G.land.pairs → s.listed q ≡ true → (s.listed (top G (plain h) s) ≡ true) × (f h s (top G (plain h) s) ≤ f h s q)
  top_is q lt on = let r = foremost_leads (plain h) s (plain_ordered h s) G.land.pairs q lt on in (r.0, ltb-false _ _ r.1)
