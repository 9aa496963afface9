use Rattle.std.proofs.Common.{◌≡◌, take, drop, fold, Some}
use Rattle.form.specs.Reading.{step, start}
use Rattle.form.specs.Scanning.{viewed}
use Rattle.form.specs.Viewing.{plain}
use Rattle.form.proofs.scan.check.Given as goal

abbrev pub invariant-loop-b : goal.invariant-loop-b
invariant-loop-b l = (Some l.scan ≡ viewed (fold step start (take l.b-index l.text))) × (plain l.text ≡ plain (drop l.b-index l.text))
