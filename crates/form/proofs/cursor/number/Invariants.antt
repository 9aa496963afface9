use Rattle.std.proofs.Common.{◌≡◌, ◌≤◌, length}
use Rattle.form.specs.Viewing.{counted, uncounted}
use Rattle.form.proofs.cursor.number.Given as goal

abbrev pub invariant-loop-b : goal.invariant-loop-b
invariant-loop-b l = (counted l.n l.left ≡ counted 0 l.text) × (uncounted l.n l.left ≡ uncounted 0 l.text) × (l.n ≤ 1000000)

abbrev pub decreases-loop-b : goal.decreases-loop-b
decreases-loop-b l = length l.left
