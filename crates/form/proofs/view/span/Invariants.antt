use Rattle.std.proofs.Common.{◌≡◌, ◌+◌, ◌≤◌, drop}
use Rattle.form.specs.Viewing.{enclosed}
use Rattle.form.proofs.view.span.Given as goal

abbrev pub invariant-loop-i : goal.invariant-loop-i
invariant-loop-i l = (enclosed 0 l.text ≡ l.i + enclosed l.open (drop l.i l.text)) × (l.open ≤ l.i)
