-- What a task is up to after a first letter.
use Rattle.std.specs.Prelude.{◌≡◌, ℕ, length, Some, None, Option}
use Rattle.ltlf.specs.Distance.{IsDistance}
use Rattle.task.specs.Compiled.{task_formula, letters_of, states_of, first_state}
use Rattle.task.specs.declared.compiled.Task.{Task}
use Rattle.briefing.specs.declared.outlook.Outlook.{Outlook}

-- the number of states, and the least number of letters from the state after the letter to one that accepts
abbrev pub Looks : Task → ℕ → Option Outlook → Type 0
Looks t a None = first_state (task_formula t) (letters_of t) a ≡ None
Looks t a (Some o) =
    (o.states ≡ length (states_of t))
    × (q : ℕ) × (first_state (task_formula t) (letters_of t) a ≡ Some q) × IsDistance (task_formula t) (letters_of t) q o.distance
