-- One decision: the search, the ways in, and the guide afterwards.
use Rattle.std.specs.Prelude.{◌≡◌, ℕ, zero, suc, ◌+◌, ◌≤◌, Bool, true, false, cond, not, ◌&&◌, ◌||◌, List, [], ◌∷◌, ◌==◌, nat_lt}
use Rattle.law.specs.Grounds.{Land, Ground, cost}

-- What the search has of each pair: its g (the seconds from here), the way in (the leg, and the pair that it was walked
-- from), whether it is on the open list, and whether it is closed; and the counts of expansions and of reopenings.
pub record Search : Type 0 where
  pub g : ℕ → ℕ
  pub way : ℕ → ℕ
  pub before : ℕ → ℕ
  pub listed : ℕ → Bool
  pub closed : ℕ → Bool
  pub expansions : ℕ
  pub reopenings : ℕ

-- f with x at p.
abbrev pub put : {X : Type 0} → (ℕ → X) → ℕ → X → ℕ → X
put f p x q = cond (q == p) x (f q)

-- At the beginning only here is listed, with g = 0.
abbrev pub begin : ℕ → Search
begin here = record {
  g = λ _. 0;
  way = λ _. 0;
  before = λ _. here;
  listed = put (λ _. false) here true;
  closed = λ _. false;
  expansions = 0;
  reopenings = 0;
}

-- An order of the open list: whether p goes before t. Ties go to the lower number.
abbrev pub Order : Type 0
Order = Search → ℕ → ℕ → Bool

-- f is g plus guide.
abbrev pub f : (ℕ → ℕ) → Search → ℕ → ℕ
f h s p = s.g p + h p

-- The plain order: the smaller f first.
abbrev pub plain : (ℕ → ℕ) → Order
plain h s p t = nat_lt (f h s p) (f h s t)

-- Of the listed pairs below n, the first in the order, then in number.
abbrev pub foremost : Order → Search → ℕ → ℕ
foremost order s zero = 0
foremost order s (suc n) =
    let t = foremost order s n in
    cond (s.listed n && (not (s.listed t) || order s n t)) n t

-- The top of the open list.
abbrev pub top : Ground → Order → Search → ℕ
top G order s = foremost order s G.land.pairs

-- Whether leg l leads from pair p to a live pair that gets its first or a smaller g by it.
abbrev pub gains : Ground → (ℕ → Bool) → ℕ → Search → ℕ → Bool
gains G alive p s l =
    let q = G.land.to p l in
    G.land.leaves p l && alive q && (not (s.listed q || s.closed q) || nat_lt (s.g p + G.time l) (s.g q))

-- That pair keeps the leg as its way in and is listed; if closed it is reopened and counted.
abbrev pub gained : Ground → ℕ → Search → ℕ → Search
gained G p s l =
    let q = G.land.to p l in
    record {
      g = put s.g q (s.g p + G.time l);
      way = put s.way q l;
      before = put s.before q p;
      listed = put s.listed q true;
      closed = put s.closed q false;
      expansions = s.expansions;
      reopenings = s.reopenings + cond (s.closed q) 1 0;
    }

-- The legs of p below n are followed, in rising number.
abbrev pub followed : Ground → (ℕ → Bool) → ℕ → Search → ℕ → Search
followed G alive p s zero = s
followed G alive p s (suc n) =
    let s' = followed G alive p s n in
    cond (gains G alive p s' n) (gained G p s' n) s'

-- p is taken off the list and closed.
abbrev pub taken : ℕ → Search → Search
taken p s = record {
  g = s.g;
  way = s.way;
  before = s.before;
  listed = put s.listed p false;
  closed = put s.closed p true;
  expansions = suc s.expansions;
  reopenings = s.reopenings;
}

-- One expansion: p is closed and its legs are followed.
abbrev pub expanded : Ground → (ℕ → Bool) → ℕ → Search → Search
expanded G alive p s = followed G alive p (taken p s) G.land.legs

-- Up to k expansions of the top, none once the top is a goal.
abbrev pub searched : Ground → (ℕ → Bool) → Order → ℕ → Search → Search
searched G alive order zero s = s
searched G alive order (suc k) s =
    let s' = searched G alive order k (expanded G alive (top G order s) s) in
    cond (G.land.goal (top G order s)) s s'

-- The legs of the last n ways in to p, back to here, and then the given legs.
abbrev pub ways : Search → ℕ → ℕ → ℕ → List ℕ → List ℕ
ways s here zero p legs = legs
ways s here (suc n) p legs = cond (p == here) legs (ways s here n (s.before p) (s.way p ∷ legs))

-- The legs ls lead from p through closed pairs to the listed pair o.
abbrev pub Through : Land → Search → ℕ → List ℕ → ℕ → Type 0
Through L s p [] o = (s.listed p ≡ true) × (p ≡ o)
Through L s p (l ∷ ls) o = (s.closed p ≡ true) × (L.leaves p l ≡ true) × Through L s (L.to p l) ls o

-- The guide afterwards: that of a closed pair becomes the least sum, over paths through closed pairs to a listed pair, of the
-- times and that pair's guide; the others keep theirs.
pub record Updated (G : Ground) (s : Search) (h h' : ℕ → ℕ) : Type 0 where
  pub kept : (p : ℕ) → s.closed p ≡ false → h' p ≡ h p
  pub reached : (p : ℕ) → s.closed p ≡ true → (ls : List ℕ) × (o : ℕ) × Through G.land s p ls o × (h' p ≡ cost G ls + h o)
  pub lowest : (p o : ℕ) (ls : List ℕ) → s.closed p ≡ true → Through G.land s p ls o → h' p ≤ cost G ls + h o
