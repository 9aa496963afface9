-- What a look at one node, and a sweep over all of them, do.
use Rattle.std.specs.Prelude.{◌≡◌, ℕ, ◌<◌, ◌≤◌, Bool, true, false, cond, ◌&&◌, List, ◌++◌, length, drop, replicate, Some, None, sum_by, Option, nat_le}
use Rattle.best.specs.Kinds.{Order}
use Rattle.best.specs.Paths.{Meaning, Arc, Path, back, at}

-- no arc of u gives it a better value than x, of the arcs with numbers below k
abbrev pub SettledTo : {V W : Type 0} → Order V W → Meaning W → List V → ℕ → V → ℕ → Type 0
SettledTo {V} {W} o m xs u x below =
    (k : ℕ) → k < below → (v : ℕ) (w : W) → m.arc u k ≡ Some (v, w) → o.rank x ≤ o.rank (o.extended w (at o xs v))

abbrev pub Settled : {V W : Type 0} → Order V W → Meaning W → List V → ℕ → Type 0
Settled o m xs u = SettledTo o m xs u (at o xs u) (m.numbers u)

-- b is the value that some arc of u gives it
abbrev pub Via : {V W : Type 0} → Order V W → Meaning W → List V → ℕ → V → Type 0
Via {V} {W} o m xs u b = (v : ℕ) × (w : W) × Arc m u v w × (b ≡ o.extended w (at o xs v))

-- b is better than the value of u, some arc of u gives it, and none gives a better one
pub record Better {V W : Type 0} (o : Order V W) (m : Meaning W) (xs : List V) (u : ℕ) (b : V) : Type 0 where
  pub less : o.rank b < o.rank (at o xs u)
  pub via : Via o m xs u b
  pub all : SettledTo o m xs u b (m.numbers u)

abbrev pub Pulled : {V W : Type 0} → Order V W → Meaning W → List V → ℕ → Option V → Type 0
Pulled o m xs u None = Settled o m xs u
Pulled o m xs u (Some b) = Better o m xs u b

-- some path leads from u to a node, and r is that node's seed at u
abbrev pub Traced : {V W : Type 0} → Order V W → Meaning W → List V → ℕ → V → Type 0
Traced {V} {W} o m seeds u r = (s : ℕ) × (path : List (ℕ × W)) × (s < m.nodes) × Path m u path s × (r ≡ back o path (at o seeds s))

abbrev pub Sound : {V W : Type 0} → Order V W → Meaning W → List V → List V → Type 0
Sound o m seeds xs = (u : ℕ) → u < m.nodes → Traced o m seeds u (at o xs u)

-- what the ranks of the values come to
abbrev pub total : {V W : Type 0} → Order V W → List V → ℕ
total o xs = sum_by o.rank xs

-- the values only get better, and each stays that of some path
pub record Improves {V W : Type 0} (o : Order V W) (m : Meaning W) (xs ys : List V) : Type 0 where
  pub long : length ys ≡ length xs
  pub better : (u : ℕ) → o.rank (at o ys u) ≤ o.rank (at o xs u)
  pub sound : (seeds : List V) → Sound o m seeds xs → Sound o m seeds ys

-- what a sweep over the nodes from one on has done: it changed something, or nothing there wants a change
abbrev pub Outcome : {V W : Type 0} → Order V W → Meaning W → List V → List V → ℕ → Bool → Type 0
Outcome o m xs ys from true = total o ys < total o xs
Outcome o m xs ys from false = (ys ≡ xs) × ((u : ℕ) → from ≤ u → u < m.nodes → Settled o m xs u)

-- what a queue holds afterwards: as many words as there are nodes are 0, if it has them and the values were not refused
abbrev pub queued_after : ℕ → ℕ → List ℕ → List ℕ
queued_after nodes places queue =
    cond (nat_le nodes places && nat_le nodes (length queue)) (replicate nodes 0 ++ drop nodes queue) queue
