-- Bytes put into memory.
use Rattle.std.specs.Prelude.{◌≡◌, ℕ, ◌+◌, min, List, [], ◌∷◌, ◌++◌, length, take, drop}
use Rattle.form.specs.declared.writer.Writer.{Writer}
use Rattle.form.specs.Forms.{Parts, none, number}

-- the memory with bytes from a place on, as many as fit, and the rest as it was
abbrev pub put : ℕ → List ℕ → List ℕ → List ℕ
put at bs m = take (length m) (take at m ++ (bs ++ drop (at + length bs) m))

-- bytes were put into m from a place on, as many as fit, which made n of it; r is the place after all of them, or the
-- greatest word
pub record Puts (at : ℕ) (bs m : List ℕ) (r : ℕ) (n : List ℕ) : Type 0 where
  pub place : r ≡ min (at + length bs) 18446744073709551615
  pub after : n ≡ put at bs m

-- the writer put the bytes into its memory from its place on, as many as fit, and stands after all of them; the memory is the same
pub record Wrote (bs : List ℕ) (w v : Writer) : Type 0 where
  pub same : v.memory.ghost_name ≡ w.memory.ghost_name
  pub puts : Puts w.place bs w.memory.now v.place v.memory.now

-- numbers as parts
abbrev pub numbers_of : List ℕ → Parts
numbers_of [] = none
numbers_of (n ∷ ns) = number n (numbers_of ns)
