-- What the reader of a form shows of it.
use Rattle.std.specs.Prelude.{◌≡◌, ℕ, suc, ◌+◌, ◌-◌, ◌*◌, ◌<◌, Bool, true, false, cond, ◌&&◌, List, [], ◌∷◌, length, take, drop, Some, None, Ok, Err, Option, Result, ◌==◌, nat_le, nat_lt}
use Rattle.form.specs.Forms.{Parts, none, number, inner, Tree, line_of, bytes_of, Good}
use Rattle.form.specs.Reading.{digit, form_of}
use Rattle.form.specs.declared.view.Part.{Part}
use Rattle.form.specs.declared.view.Part.TheVariants as part
use Rattle.form.specs.declared.view.Parts.{Parts as Shown}
use Rattle.form.specs.declared.view.Parts.TheVariants.{Zero, One, Two, Three, More}
use Rattle.form.specs.declared.view.Form.{Form}
use Rattle.form.specs.declared.fault.Fault.{Fault}
use Rattle.form.specs.declared.fault.Fault.TheVariants.{Byte, Shape}

-- one part: a number, or the bytes of a form
pub data Piece : Type 0 where
  value : ℕ → Piece
  bracketed : List ℕ → Piece

-- the parts one by one
abbrev pub pieces : Parts → List Piece
pieces none = []
pieces (number n ps) = value n ∷ pieces ps
pieces (inner h ps qs) = bracketed (line_of h ps) ∷ pieces qs

-- what the code shows as a part
abbrev pub piece : Part → Piece
piece (part.Number n) = value n
piece (part.Form t) = bracketed t.now

-- what the code shows of all parts: up to three, or that there are more
abbrev pub Shows : Shown → List Piece → Type 0
Shows Zero ps = ps ≡ []
Shows (One a) ps = ps ≡ piece a ∷ []
Shows (Two a b) ps = ps ≡ piece a ∷ (piece b ∷ [])
Shows (Three a b c) ps = ps ≡ piece a ∷ (piece b ∷ (piece c ∷ []))
Shows More ps = 3 < length ps

-- a byte that a line may hold
abbrev pub printed : ℕ → Bool
printed b = nat_le 32 b && nat_le b 126

-- bytes that a line may hold
abbrev pub plain : List ℕ → Bool
plain [] = true
plain (b ∷ t) = cond (printed b) (plain t) false

-- what the reader answers: the form that the bytes write, or which of the two questions fails first
abbrev pub Reads : List ℕ → Result Form Fault → Type 0
Reads t (Ok f) = (plain t ≡ true) × (tree : Tree) × (form_of t ≡ Some tree) × (f.head.now ≡ tree.head) × Shows f.parts (pieces tree.parts)
Reads t (Err Byte) = plain t ≡ false
Reads t (Err Shape) = (plain t ≡ true) × (form_of t ≡ None)

-- a form that a line may hold is written in printed bytes only
abbrev pub FormsPlain : Type 0
FormsPlain = (f : Tree) → Good f → plain (bytes_of f) ≡ true

-- a number of at most six digits, of which n was read, and what is left after it
abbrev pub counted : ℕ → List ℕ → ℕ
counted n [] = n
counted n (b ∷ t) = cond (digit b && nat_lt n 100000) (counted (n * 10 + (b - 48)) t) n

abbrev pub uncounted : ℕ → List ℕ → List ℕ
uncounted n [] = []
uncounted n (b ∷ t) = cond (digit b && nat_lt n 100000) (uncounted (n * 10 + (b - 48)) t) (b ∷ t)

-- how many bytes there are up to the bracket that closes the one opened before them, with d others open in it
abbrev pub enclosed : ℕ → List ℕ → ℕ
enclosed d [] = 0
enclosed d (b ∷ t) = suc (cond (b == 41) (cond (d == 0) 0 (enclosed (d - 1) t)) (cond (b == 40) (enclosed (d + 1) t) (enclosed d t)))

-- the part that bytes begin with, and what is left after it
abbrev pub first : List ℕ → Piece × List ℕ
first [] = (value 0, [])
first (b ∷ t) =
    cond (b == 40) (bracketed (take (suc (enclosed 0 t)) (b ∷ t)), drop (suc (enclosed 0 t)) (b ∷ t))
    (value (counted 0 (b ∷ t)), uncounted 0 (b ∷ t))

-- the next part, if a space comes before it, and what is left after it
abbrev pub parted : List ℕ → Option (Piece × List ℕ)
parted [] = None
parted (b ∷ t) = cond (b == 32) (Some (first t)) None
