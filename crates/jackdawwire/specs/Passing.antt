-- What it means to pass a station.
use Rattle.std.specs.Prelude.{◌≡◌, ℕ, cond, Some, None, Option, ◌==◌}
use Rattle.ltlf.specs.Distance.{IsDistance}
use Rattle.task.specs.declared.compiled.Task.{Task}
use Rattle.task.specs.Compiled.{task_formula, letters_of, first_state, next_state, accepts_state}
use Rattle.jackdawwire.specs.declared.visit.Visit.{Visit}

-- station 1 has mark 1, station 3 has mark 0
abbrev pub letter_at : ℕ → ℕ
letter_at s = cond (s == 1) 2 (cond (s == 3) 1 0)

-- the state after a letter, from the state before it, if there was one
abbrev pub state_after : Task → Option ℕ → ℕ → Option ℕ
state_after t None a = first_state (task_formula t) (letters_of t) a
state_after t (Some q) a = next_state (task_formula t) (letters_of t) q a

-- a station is passed: its letter is read, and what the visit tells is what the task says
abbrev pub Passed : Task → Option ℕ → ℕ → Option Visit → Type 0
Passed t before s None = state_after t before (letter_at s) ≡ None
Passed t before s (Some v) =
    (v.station ≡ s) × (v.letter ≡ letter_at s) × (Some v.state ≡ state_after t before (letter_at s))
    × (Some v.fulfilled ≡ accepts_state (task_formula t) (letters_of t) v.state)
    × IsDistance (task_formula t) (letters_of t) v.state v.distance
