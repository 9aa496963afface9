-- What is proved of best values, in the subject's words.
use Rattle.std.specs.Prelude.{◌≡◌, ℕ, ◌<◌, ◌≤◌, true, List, length}
use Rattle.best.specs.Kinds.{Order, Lawful}
use Rattle.best.specs.Paths.{Meaning, Closed, Path, back, at, IsBest}

-- the best values of seeds are one: where they are values of the kind, they are equal
abbrev pub OneBest : {V W : Type 0} → Order V W → Meaning W → Type 0
OneBest {V} {W} o m =
    Lawful o → (seeds xs ys : List V) → IsBest o m seeds xs → IsBest o m seeds ys
    → (u : ℕ) → u < m.nodes → o.proper (at o xs u) ≡ true → o.proper (at o ys u) ≡ true → at o xs u ≡ at o ys u

-- for every path to a node there is one with at most as many steps as the net has nodes, whose value is no worse
abbrev pub ShortPaths : {V W : Type 0} → Order V W → Meaning W → Type 0
ShortPaths {V} {W} o m =
    Lawful o → Closed m → (path : List (ℕ × W)) (u s : ℕ) (z : V) → u < m.nodes → Path m u path s
    → (short : List (ℕ × W)) × Path m u short s × (length short ≤ m.nodes) × (o.rank (back o short z) ≤ o.rank (back o path z))
