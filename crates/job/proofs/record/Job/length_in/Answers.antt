use Rattle.std.proofs.Common.{arith}
use Rattle.job.specs.Records.{contents_of}
use Rattle.job.proofs.Wrote.{passes}
use Rattle.job.proofs.record.Job.length_in.Goals as goal

pub returns : goal.returns
returns c =
    let j = c.args.self.now in
    passes j.held (contents_of j) j.right c.put-length.result c.args.room c.if-not-self.false c.put-length.ensures.place (omega (arith, c.if-room-length.false))
