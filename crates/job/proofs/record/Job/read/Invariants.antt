use Rattle.std.proofs.Common.{◌≡◌, ◌+◌, ◌≤◌, false, [], length}
use Rattle.job.specs.Records.{draft_of}
use Rattle.job.specs.Texts.{read_on, reading}
use Rattle.job.proofs.record.Job.read.Given as goal

abbrev pub invariant-loop-bytes : goal.invariant-loop-bytes
invariant-loop-bytes l =
    (read_on (draft_of l.self.draft) [] l.line l.left ≡ reading l.text) × (l.line + length l.left ≤ 65537) × (l.self.held ≡ false)

abbrev pub decreases-loop-bytes : goal.decreases-loop-bytes
decreases-loop-bytes l = length l.left
