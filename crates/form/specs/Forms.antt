-- Bracketed forms, and the bytes that write them.
use Rattle.std.specs.Prelude.{◌≡◌, ℕ, suc, ◌<◌, ◌≤◌, max, Bool, true, ◌&&◌, List, [], ◌∷◌, ◌++◌, length, decimal, nat_le}

-- the parts of a form: none, or a number and further parts, or a form of a head and parts and further parts
pub data Parts : Type 0 where
  none : Parts
  number : ℕ → Parts → Parts
  inner : List ℕ → Parts → Parts → Parts

-- a form: a head and parts
pub record Tree : Type 0 where
  pub head : List ℕ
  pub parts : Parts

-- each part after one space
abbrev pub written : Parts → List ℕ
written none = []
written (number n ps) = 32 ∷ decimal n ++ written ps
written (inner h ps qs) = 32 ∷ 40 ∷ h ++ (written ps ++ 41 ∷ written qs)

-- the bytes of a form of a head and parts: both in brackets
abbrev pub line_of : List ℕ → Parts → List ℕ
line_of h ps = 40 ∷ h ++ (written ps ++ 41 ∷ [])

abbrev pub bytes_of : Tree → List ℕ
bytes_of f = line_of f.head f.parts

-- a letter a to z
abbrev pub letter : ℕ → Bool
letter b = nat_le 97 b && nat_le b 122

-- how deep brackets nest in parts: each inner form is one deeper than its own parts
abbrev pub depth : Parts → ℕ
depth none = 0
depth (number n ps) = depth ps
depth (inner h ps qs) = max (suc (depth ps)) (depth qs)

-- letters and nothing else
abbrev pub Letters : List ℕ → Type 0
Letters [] = Unit {0}
Letters (b ∷ bs) = (letter b ≡ true) × Letters bs

-- a word: one letter or more
pub record Word (h : List ℕ) : Type 0 where
  pub some : 0 < length h
  pub letters : Letters h

-- heads are words, and numbers have at most six digits
abbrev pub Sound : Parts → Type 0
Sound none = Unit {0}
Sound (number n ps) = (n < 1000000) × Sound ps
Sound (inner h ps qs) = Word h × Sound ps × Sound qs

-- a form that a line may hold: at most 16 brackets deep, its own among them
pub record Good (f : Tree) : Type 0 where
  pub word : Word f.head
  pub sound : Sound f.parts
  pub deep : suc (depth f.parts) ≤ 16
