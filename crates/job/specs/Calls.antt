-- Call lines: what may follow a job's text.
use Rattle.std.specs.Prelude.{◌≡◌, ℕ, ◌<◌, cond, List, [], ◌∷◌, ◌++◌, Some, None, Ok, Err, codes, Option, Result, ◌≢◌}
use Rattle.std.specs.Borrow.{Bor}
use Rattle.std.specs.Str.{bytes_eq}
use Rattle.form.specs.Forms.{Tree, bytes_of}
use Rattle.form.specs.declared.view.Part.TheVariants as part
use Rattle.form.specs.declared.view.Parts.{Parts as Shown}
use Rattle.form.specs.declared.view.Parts.TheVariants as shown
use Rattle.job.specs.Rows.{of_numbers}
use Rattle.job.specs.declared.call.Call.{Call}
use Rattle.job.specs.declared.call.Call.TheVariants.{Decide, Move, Drag}
use Rattle.job.specs.declared.call.CallFault.{CallFault}
use Rattle.job.specs.declared.call.CallFault.TheVariants.{NotACall}

-- the number that a refusal is reported by
abbrev pub call_number : CallFault → ℕ
call_number NotACall = 4

-- a call's form
abbrev pub call_tree : Call → Tree
call_tree Decide = of_numbers (codes "decide") []
call_tree Move = of_numbers (codes "move") []
call_tree (Drag l w) = of_numbers (codes "drag") (l ∷ (w ∷ []))

-- a call's bytes, with its line feed
abbrev pub call_bytes : Call → List ℕ
call_bytes c = bytes_of (call_tree c) ++ 10 ∷ []

-- the numbers have at most six digits
abbrev pub Small : Call → Type 0
Small Decide = Unit {0}
Small Move = Unit {0}
Small (Drag l w) = (l < 1000000) × (w < 1000000)

-- what the reader of calls answers: that the text is at its end, or the call that it begins with and the rest, or that it
-- begins with no call line
abbrev pub Calls : List ℕ → Result (Option (Call × Bor (List ℕ))) CallFault → Type 0
Calls t (Ok None) = t ≡ []
Calls t (Ok (Some p)) = (t ≡ call_bytes p.0 ++ p.1.now) × Small p.0
Calls t (Err NotACall) = (t ≢ []) × ((c : Call) (rest : List ℕ) → Small c → t ≢ call_bytes c ++ rest)

-- a text begins with at most one call line
abbrev pub CallsOnce : Type 0
CallsOnce = (c d : Call) (s t : List ℕ) → Small c → Small d → call_bytes c ++ s ≡ call_bytes d ++ t → (c ≡ d) × (s ≡ t)

-- the call that a head and parts are, as a form's reader shows them
abbrev pub call_in : List ℕ → Shown → Option Call
call_in h shown.Zero = cond (bytes_eq h (codes "decide")) (Some Decide) (cond (bytes_eq h (codes "move")) (Some Move) None)
call_in h (shown.One p) = None
call_in h (shown.Two (part.Number l) (part.Number w)) = cond (bytes_eq h (codes "drag")) (Some (Drag l w)) None
call_in h (shown.Two (part.Number l) (part.Form t)) = None
call_in h (shown.Two (part.Form t) q) = None
call_in h (shown.Three p q r) = None
call_in h shown.More = None
