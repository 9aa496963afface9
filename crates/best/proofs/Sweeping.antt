-- A sweep over the nodes, from the last to the first: what holds after the nodes from one on.
use Rattle.std.proofs.Common.{ℕ, ◌+◌, ◌<◌, ◌≤◌, Bool, true, List, length, set, arith}
use Rattle.best.specs.Kinds.{Order}
use Rattle.best.specs.Paths.{Meaning, at}
use Rattle.best.specs.Sweeps.{Settled, total, Outcome}
use Rattle.best.proofs.Improving.{total_write}

module _ {V W : Type 0} (o : Order V W) (m : Meaning W) where
  -- a sweep never makes the total larger
  falls : (xs ys : List V) (i : ℕ) (b : Bool) → Outcome o m xs ys i b → total o ys ≤ total o xs
  falls xs ys i b h = grind arith

  pub keep : (xs ys : List V) (i : ℕ) (c : Bool) → Outcome o m xs ys (i + 1) c → Settled o m ys i → Outcome o m xs ys i c
  keep xs ys i c s h = grind arith

  pub write : (xs ys : List V) (i j : ℕ) (c : Bool) (b : V) → i < length ys → Outcome o m xs ys j c → o.rank b < o.rank (at o ys i)
      → Outcome o m xs (set ys i b) i true
  write xs ys i j c b within s less = omega (arith, total_write o m ys i b within less, falls xs ys j c s)
