use Rattle.std.proofs.Common.{◌≤◌, arith}
use Rattle.taskform.specs.Gathering.{marks_in}
use Rattle.taskform.proofs.Limits.{fault_range, fault_size}
use Rattle.taskform.proofs.compiler.limited.Goals.{then-marks-lt1-via-then-marks-lt1, then-marks-lt1-via-else-marks-lt1+then-marks-gt6, then-marks-lt1-via-else-marks-lt1+else-marks-gt6+then-marks-from}
use Rattle.taskform.proofs.compiler.limited.Goals as goal

pub returns-then-marks-lt1 : goal.returns-then-marks-lt1
returns-then-marks-lt1 c os h one =
    fault_range c.args.marks os one
    (λ p. elim c.then-marks-lt1.branch [
      | then-marks-lt1-via-then-marks-lt1 w ↦ omega (arith, p.0, w.if-marks-lt1.true)
      | then-marks-lt1-via-else-marks-lt1+then-marks-gt6 w ↦ omega (arith, p.1, w.if-marks-gt6.true)
      | then-marks-lt1-via-else-marks-lt1+else-marks-gt6+then-marks-from w ↦ omega (arith, p.2, h.marks, w.marks.ensures, w.from.ensures, w.if-marks-from.true)
    ])

pub returns-in_default : goal.returns-in_default
returns-in_default c os h one =
    let few : marks_in os ≤ c.args.marks = omega (arith, h.marks, c.marks.ensures, c.from.ensures, c.if-marks-from.false) in
    let many = c.in_default.ensures os h (omega (arith, c.if-marks-gt6.false)) in
    fault_size c.args.marks os one c.if-marks-lt1.false c.if-marks-gt6.false few many
