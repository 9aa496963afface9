use Rattle.std.proofs.Common.{sym, ◌∙◌}
use Rattle.job.specs.Records.{contents_of}
use Rattle.job.proofs.Bored.{held_chart}
use Rattle.job.proofs.record.Job.chart.Goals as goal

pub returns-then-is_held : goal.returns-then-is_held
returns-then-is_held c =
    let j = c.args.self.now in
    let h = held_chart j.held (contents_of j) (sym c.is_held.ensures ∙ c.if-is_held.true) j.right j.draft.marked in
    c.chart.ensures h.0 ∙ sym h.1
