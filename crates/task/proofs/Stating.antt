-- Best values over the net of the states are distances: paths of the net are lists of letters.
use Rattle.std.proofs.Common.{◌≡◌, ℕ, ◌<◌, ◌≤◌, min, true, cond, ◌&&◌, ltb, leb, List, [], ◌∷◌, length, get_or, Some, None, Option, sym, refl, ap, ◌∙◌, inl, inr, ⊎_elim, arith, rules}
use Rattle.std.proofs.lemmas.List.{get_or_default}
use Rattle.std.proofs.lemmas.Bool.{cases_Bool, cond-true, and_from, and_parts, lt-ltb, ltb-true, le-leb, leb-true}
use Rattle.best.specs.Kinds.{counts, Lawful}
use Rattle.best.specs.Paths.{Path, back, Reached, IsBest}
use Rattle.best.proofs.Shortening.{short_paths}
use Rattle.ltlf.specs.Ltlf.{Ltlf}
use Rattle.ltlf.specs.Numbering.{next_number, accepts_number, number_after}
use Rattle.ltlf.specs.Theorems.{LettersBelow}
use Rattle.ltlf.specs.Distance.{Leads, within}
use Rattle.ltlf.proofs.Distances.{within_letters, letters_within}
use Rattle.task.specs.Rows.{entry}
use Rattle.task.specs.StateNet.{state_net, Inside, arc_is, state_closed}

counts_lawful : Lawful (counts 4294967295)
counts_lawful = search rules

module _ (f : Ltlf) (n : ℕ) (next : List (List ℕ)) (steps : (q a : ℕ) → q < length next → a < n → entry next q a ≡ next_number f n q a)
    (inside : Inside n next) where
  next_inside : (q a : ℕ) → q < length next → a < n → next_number f n q a < length next
  next_inside q a h l = omega (arith, inside q a (h, l), steps q a h l)

  -- letters are a path, whose value is at most their number
  letters_path : (top : ℕ) (xs : List ℕ) (q : ℕ) → q < length next → LettersBelow n xs
      → (path : List (ℕ × ℕ)) × Path (state_net n next) q path (number_after f n q xs) × ((counts top).rank (back (counts top) path 0) ≤ length xs)
  letters_path top [] q h below = ([], refl, omega arith)
  letters_path top (a ∷ xs) q h below =
      let to = next_number f n q a in
      let r = letters_path top xs to (next_inside q a h below.0) below.1 in
      let yes_arc = cond-true {A = Option (ℕ × ℕ)} (ltb q (length next) && ltb a n) (Some (entry next q a, 1)) None
      (and_from (ltb q (length next)) (ltb a n) (lt-ltb q (length next) h) (lt-ltb a n below.0)) in
      let is : ◌≡◌ {A = Option (ℕ × ℕ)} (Some (entry next q a, 1)) (Some (to, 1)) = ap (λ v. Some (v, 1)) (steps q a h below.0) in
      ((to, 1) ∷ r.0, ((a, below.0, yes_arc ∙ is), r.1), omega (arith, r.2))

  -- a path is letters, as many as it has steps, and no more than its value
  path_letters : (top : ℕ) (path : List (ℕ × ℕ)) (q s : ℕ) → q < length next → Path (state_net n next) q path s
      → (xs : List ℕ) × LettersBelow n xs × (number_after f n q xs ≡ s) × (length xs ≡ length path) × (min (length xs) top ≤ back (counts top) path 0)
  path_letters top [] q s h p = ([], tt, p, refl, omega arith)
  path_letters top (e ∷ rest) q s h p =
      let arc = p.0 in
      let a = arc.0 in
      let said = arc_is (ltb q (length next) && ltb a n) (entry next q a) e.0 e.1 arc.2 in
      let to : next_number f n q a ≡ e.0 = sym (steps q a h arc.1) ∙ said.1 in
      let r = path_letters top rest e.0 s (omega (arith, next_inside q a h arc.1, to)) p.1 in
      (a ∷ r.0, (arc.1, r.1), ap (λ k. number_after f n k r.0) to ∙ r.2, omega (arith, r.3), omega (arith, r.4, said.2))

  module _ (few : length next ≤ 64) (seeds ds : List ℕ) (long : length seeds ≡ length next)
      (seeded : (q : ℕ) → q < length next → get_or seeds q 4294967295 ≡ cond (accepts_number f n q) 0 4294967295)
      (best : IsBest (counts 4294967295) (state_net n next) seeds ds) (fit : (q : ℕ) → get_or ds q 0 ≤ 4294967295) where
    same_at : (q : ℕ) → q < length next → get_or ds q 4294967295 ≡ get_or ds q 0
    same_at q h = get_or_default ds q 4294967295 0 (omega (arith, best.long, long))

    seed_zero : (s : ℕ) → s < length next → accepts_number f n s ≡ true → get_or seeds s 4294967295 ≡ 0
    seed_zero s h e = seeded s h ∙ ap {B = ℕ} (λ b. cond b 0 4294967295) e

    after_inside : (xs : List ℕ) (q : ℕ) → q < length next → LettersBelow n xs → number_after f n q xs < length next
    after_inside [] q h below = h
    after_inside (a ∷ xs) q h below = after_inside xs (next_number f n q a) (next_inside q a h below.0) below.1

    -- no letters do better
    at_most : (xs : List ℕ) (q : ℕ) → q < length next → Leads f n q xs → min (get_or ds q 0) 4294967295 ≤ length xs
    at_most xs q h l =
        let p = letters_path 4294967295 xs q h l.0 in
        let s = number_after f n q xs in
        let zero_there = seed_zero s (after_inside xs q h l.0) l.1 in
        omega (arith, best.least q s p.0 h p.1, ap (λ z. min (back (counts 4294967295) p.0 z) 4294967295) zero_there, p.2, same_at q h)

    -- there are letters that are no longer than there are states
    few_letters : (xs : List ℕ) (q : ℕ) → q < length next → Leads f n q xs → (ys : List ℕ) × Leads f n q ys × (length ys ≤ 64)
    few_letters xs q h l =
        let p = letters_path 4294967295 xs q h l.0 in
        let m = state_net n next in
        let short = short_paths (counts 4294967295) m counts_lawful (state_closed n next inside) p.0 q (number_after f n q xs) 0 h p.1 in
        let r = path_letters 4294967295 short.0 q (number_after f n q xs) h short.1 in
        (r.0, (r.1, ap (accepts_number f n) r.2 ∙ l.1), omega (arith, r.3, short.2))

    -- the value is reached, where there is one
    reached_by : (q : ℕ) → q < length next → get_or ds q 0 < 4294967295 → (xs : List ℕ) × Leads f n q xs × (length xs ≤ get_or ds q 0)
    reached_by q h low =
        let proper = ap (λ v. leb v 4294967295) (same_at q h) ∙ le-leb (get_or ds q 0) 4294967295 (fit q) in
        ⊎_elim
        (λ (none : get_or ds q 4294967295 ≡ 4294967295). let z : ⊥ = omega (arith, none, same_at q h) in absurd z)
        (λ (r : Reached (counts 4294967295) (state_net n next) seeds q (get_or ds q 4294967295)). by_path r)
        (best.reached q h proper)
      where
        by_path : Reached (counts 4294967295) (state_net n next) seeds q (get_or ds q 4294967295) → (xs : List ℕ) × Leads f n q xs × (length xs ≤ get_or ds q 0)
        by_path r =
            let s = r.0 in
            let ends : accepts_number f n s ≡ true = accepts_there s r.2 r.4 in
            let x = path_letters 4294967295 r.1 q s h r.3 in (
              x.0,
              (x.1, ap (accepts_number f n) x.2 ∙ ends),
              omega (arith, x.4, r.5, ap (back (counts 4294967295) r.1) (seed_zero s r.2 ends), same_at q h),
            )
          where
            accepts_there : (s : ℕ) → s < length next → (counts 4294967295).rank (get_or seeds s 4294967295) < (counts 4294967295).rank 4294967295 → accepts_number f n s ≡ true
            accepts_there s k lt = elim (cases_Bool (accepts_number f n s)) [
              | inl e ↦ e
              | inr e ↦ (let z : ⊥ = omega (arith, lt, seeded s k ∙ ap {B = ℕ} (λ b. cond b 0 4294967295) e) in absurd z)
            ]

    pub distance_tests : (q k : ℕ) → q < length next → within f n k q ≡ (ltb (get_or ds q 0) 4294967295 && leb (get_or ds q 0) k)
    distance_tests q k h = elim (cases_Bool (within f n k q)) [
      | inl e ↦
          let w = within_letters f n k q e in
          let y = few_letters w.0 q h w.1 in
          let low : get_or ds q 0 < 4294967295 = omega (arith, at_most y.0 q h y.1, y.2, fit q) in
          let le : get_or ds q 0 ≤ k = omega (arith, at_most w.0 q h w.1, w.2, low) in
          e ∙ sym (and_from (ltb (get_or ds q 0) 4294967295) (leb (get_or ds q 0) k) (lt-ltb (get_or ds q 0) 4294967295 low) (le-leb (get_or ds q 0) k le))
      | inr e ↦ elim (cases_Bool (ltb (get_or ds q 0) 4294967295 && leb (get_or ds q 0) k)) [
        | inl t ↦
            let parts = and_parts (ltb (get_or ds q 0) 4294967295) (leb (get_or ds q 0) k) t in
            let x = reached_by q h (ltb-true (get_or ds q 0) 4294967295 parts.0) in
            let z = letters_within f n x.0 k q (omega (arith, x.2, leb-true (get_or ds q 0) k parts.1)) x.1 in
            z ∙ sym t
        | inr t ↦ e ∙ sym t
      ]
    ]
