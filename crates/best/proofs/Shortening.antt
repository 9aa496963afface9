-- A path can be made to come to no node twice; it is then no longer than there are nodes, and its value is no worse.
use Rattle.std.proofs.Common.{◌≡◌, ℕ, zero, suc, ◌<◌, ◌≤◌, Bool, true, false, cond, ◌⊎◌, List, [], ◌∷◌, length, get_or, set, replicate, sum_by, ap, inl, le_refl, arith}
use Rattle.std.proofs.lemmas.List.{get_or-set_other, get_or-replicate, get_or_past, length-replicate}
use Rattle.std.proofs.lemmas.List.Sums.{sum_by-set, get_or-le-sum_by, count_by-le-length}
use Rattle.best.specs.Kinds.{Order, Lawful}
use Rattle.best.specs.Paths.{Meaning, Closed, Path, back}
use Rattle.best.specs.Theorems.{ShortPaths}

abbrev one : Bool → ℕ
one b = cond b 1 0

-- each step leads to a marked node
abbrev Within : {W : Type 0} → List Bool → List (ℕ × W) → Type 0
Within marks [] = Unit {0}
Within marks (e ∷ rest) = (get_or marks e.0 false ≡ true) × Within marks rest

abbrev Avoids : {W : Type 0} → ℕ → List (ℕ × W) → Type 0
Avoids v [] = Unit {0}
Avoids v (e ∷ rest) = (e.0 ≡ v → ⊥) × Avoids v rest

without : {W : Type 0} (marks : List Bool) (v : ℕ) (path : List (ℕ × W)) → Within marks path → Avoids v path → Within (set marks v false) path
without marks v [] a b = tt
without marks v (e ∷ rest) a b = grind (arith, get_or-set_other marks v e.0 false false b.0, without marks v rest a.1 b.1)

marked : (marks : List Bool) (v : ℕ) → get_or marks v false ≡ true → v < length marks
marked marks v e = grind (arith, get_or_past marks v false)

-- one mark fewer
fewer : (marks : List Bool) (v c : ℕ) → get_or marks v false ≡ true → sum_by one marks ≤ suc c → sum_by one (set marks v false) ≤ c
fewer marks v c e le = omega (arith, sum_by-set one marks v false false (marked marks v e), ap one e, le)

some : (marks : List Bool) (v : ℕ) → get_or marks v false ≡ true → sum_by one marks ≤ 0 → ⊥
some marks v e le = omega (arith, get_or-le-sum_by one marks v false (marked marks v e), ap one e, le)

module _ {V W : Type 0} (o : Order V W) (m : Meaning W) (lawful : Lawful o) where
  abbrev Cut : List Bool → ℕ → ℕ → V → V → Type 0
  Cut marks v s z y = (path : List (ℕ × W)) × Path m v path s × Within marks path × Avoids v path × (o.rank (back o path z) ≤ o.rank y)

  -- a path that comes to v: from the last time on
  last : (marks : List Bool) (v s : ℕ) (z : V) (path : List (ℕ × W)) (x : ℕ) → Path m x path s → Within marks path → Avoids v path ⊎ Cut marks v s z (back o path z)
  last marks v s z [] x p a = inl tt
  last marks v s z (e ∷ rest) x p a = grind (arith, lawful.worsens e.1 (back o rest z), last marks v s z rest e.0 p.1 a.1)

  from_last : (marks : List Bool) (v s : ℕ) (z : V) (path : List (ℕ × W)) → Path m v path s → Within marks path → Cut marks v s z (back o path z)
  from_last marks v s z path p a = grind (arith, last marks v s z path v p a)

  abbrev Short : ℕ → ℕ → ℕ → V → V → Type 0
  Short c x s z y = (path : List (ℕ × W)) × Path m x path s × (length path ≤ c) × (o.rank (back o path z) ≤ o.rank y)

  shorten : (path : List (ℕ × W)) (c : ℕ) (marks : List Bool) → sum_by one marks ≤ c → (x s : ℕ) (z : V) → Path m x path s → Within marks path → Short c x s z (back o path z)
  shorten [] c marks le x s z p a = ([], p, omega arith, le_refl _)
  shorten (e ∷ rest) zero marks le x s z p a = absurd (some marks e.0 a.0 le)
  shorten (e ∷ rest) (suc c) marks le x s z p a =
      let r = from_last marks e.0 s z rest p.1 a.1 in
      let t = shorten r.0 c (set marks e.0 false) (fewer marks e.0 c a.0 le) e.0 s z r.1 (without marks e.0 r.0 r.2 r.3) in
      (e ∷ t.0, (p.0, t.1), omega (arith, t.2), lawful.keeps e.1 (back o t.0 z) (back o rest z) (omega (arith, t.3, r.4)))

-- all nodes are marked at first
all_within : {W : Type 0} (m : Meaning W) → Closed m → (path : List (ℕ × W)) (u s : ℕ) → u < m.nodes → Path m u path s → Within (replicate m.nodes true) path
all_within m closed [] u s lt p = tt
all_within m closed (e ∷ rest) u s lt p = grind (arith, get_or-replicate m.nodes e.0 true false, all_within m closed rest e.0 s)

pub short_paths : {V W : Type 0} (o : Order V W) (m : Meaning W) → ShortPaths o m
short_paths o m lawful closed path u s z lt p =
    let all : List Bool = replicate m.nodes true in
    let few = count_by-le-length (λ (b : Bool). b) all in
    let long = length-replicate m.nodes true in
    shorten o m lawful path m.nodes all (omega (arith, few, long)) u s z p (all_within m closed path u s lt p)
