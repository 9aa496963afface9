-- The form that bytes write, read from left to right.
use Rattle.std.specs.Prelude.{◌≡◌, ℕ, ◌+◌, ◌-◌, ◌*◌, Bool, true, false, cond, ◌&&◌, List, [], ◌∷◌, ◌++◌, length, Some, None, fold, Option, ◌==◌, nat_le, nat_lt}
use Rattle.form.specs.Forms.{Parts, none, number, inner, Tree, letter, bytes_of, Good}

-- parts, and then others
abbrev pub with : Parts → Parts → Parts
with none qs = qs
with (number n ps) qs = number n (with ps qs)
with (inner h rs ps) qs = inner h rs (with ps qs)

-- a bracket that is open: its head, and its parts so far
pub record Frame : Type 0 where
  pub head : List ℕ
  pub parts : Parts

-- what was read, with the open brackets around the innermost, the nearest first
pub data State : Type 0 where
  -- before the first byte
  start : State
  -- after a bracket: the letters of its head so far
  heading : List Frame → List ℕ → State
  -- after a space
  gap : List Frame → List ℕ → Parts → State
  -- within a number
  counting : List Frame → List ℕ → Parts → ℕ → State
  -- after an inner form
  after : List Frame → List ℕ → Parts → State
  -- the form's own bracket has closed
  done : List ℕ → Parts → State
  -- no form begins so
  bad : State

-- a digit 0 to 9
abbrev pub digit : ℕ → Bool
digit b = nat_le 48 b && nat_le b 57

abbrev pub is_empty : List ℕ → Bool
is_empty [] = true
is_empty (b ∷ bs) = false

-- a bracket closes: the form in it becomes a part of the one around it
abbrev pub closed : List Frame → List ℕ → Parts → State
closed [] h ps = done h ps
closed (f ∷ fs) h ps = after fs f.head (with f.parts (inner h ps none))

-- a part, or a head, has ended: a space or a bracket follows
abbrev pub ended : ℕ → List Frame → List ℕ → Parts → State
ended b fs h ps = cond (b == 32) (gap fs h ps) (cond (b == 41) (closed fs h ps) bad)

-- one byte more: a number goes on while it is above 0 and has fewer than six digits, and a bracket opens while fewer than 16 are open
abbrev pub step : State → ℕ → State
step start b = cond (b == 40) (heading [] []) bad
step (heading fs h) b = cond (letter b) (heading fs (h ++ b ∷ [])) (cond (is_empty h) bad (ended b fs h none))
step (gap fs h ps) b =
    cond (digit b) (counting fs h ps (b - 48))
    (cond (b == 40 && nat_lt (length fs) 15) (heading (record { head = h; parts = ps } ∷ fs) []) bad)
step (counting fs h ps n) b =
    cond (digit b && (nat_lt 0 n && nat_lt n 100000)) (counting fs h ps (n * 10 + (b - 48))) (ended b fs h (with ps (number n none)))
step (after fs h ps) b = ended b fs h ps
step (done h ps) b = bad
step bad b = bad

-- what was read is a form once its own bracket has closed
abbrev pub made : State → Option Tree
made start = None
made (heading fs h) = None
made (gap fs h ps) = None
made (counting fs h ps n) = None
made (after fs h ps) = None
made (done h ps) = Some (record { head = h; parts = ps })
made bad = None

-- the form that bytes write, if they write one
abbrev pub form_of : List ℕ → Option Tree
form_of t = made (fold step start t)

-- reading undoes writing, and writing reading: a form is read exactly from its own bytes
pub record ReadingRight : Type 0 where
  pub reads : (f : Tree) → Good f → form_of (bytes_of f) ≡ Some f
  pub writes : (t : List ℕ) (f : Tree) → form_of t ≡ Some f → (t ≡ bytes_of f) × Good f
