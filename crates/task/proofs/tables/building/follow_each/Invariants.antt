use Rattle.std.proofs.Common.{◌≡◌, ℕ, ◌<◌, length, get_or}
use Rattle.std.specs.Fn.{FnReturnsAt}
use Rattle.task.specs.declared.letter.Letter.{Letter}
use Rattle.task.specs.Listed.{listed}
use Rattle.task.specs.Tables.{Tabled}
use Rattle.task.proofs.tables.building.follow_each.Given as goal

abbrev pub invariant-loop-a : goal.invariant-loop-a
invariant-loop-a g l =
    (h : ℕ → ℕ) → ((a s : ℕ) (d : Letter) → a < length l.letters → FnReturnsAt g.F.Fn l.after (get_or l.letters a d) s → s ≡ h a)
    → Tabled h l.a (listed l.initial.numbered) (listed l.numbered) (λ a. get_or l.row a 0)
