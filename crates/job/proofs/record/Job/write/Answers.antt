use Rattle.std.proofs.Common.{◌≡◌, ◌≤◌, length, None, arith}
use Rattle.job.specs.Records.{contents_of}
use Rattle.job.specs.Rows.{writing}
use Rattle.job.specs.Write.{write_fault}
use Rattle.job.proofs.RoundTrip.{job_right}
use Rattle.job.proofs.Wrote.{written, readable}
use Rattle.job.proofs.record.Job.write.Goals as goal

pub returns-in_err-length_in-clause-theorems : goal.returns-in_err-length_in-clause-theorems
returns-in_err-length_in-clause-theorems c = job_right

pub returns : goal.returns
returns c =
    let j = c.args.self.now in
    let m = c.args.memory.now in
    let long : length m ≤ 18446744073709551615 = omega (arith, c.well_formed.1.0) in
    let e : write_fault j.held (length (writing (contents_of j))) (length m) ≡ None = c.in_ok-length_in.ensures in
    let w = written j.held (contents_of j) j.right m _ _ c.put.ensures long e in
    record {
      answer = (e, w.0, w.1);
      readable = readable j.held (contents_of j) j.right m _ _ c.put.ensures long e;
      theorems = job_right;
    }
