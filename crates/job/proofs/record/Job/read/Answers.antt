use Rattle.std.proofs.Common.{[], Err, sym, refl, ap, ◌∙◌, arith}
use Rattle.job.specs.Holding.{contents}
use Rattle.job.specs.Records.{draft_of}
use Rattle.job.proofs.Broken.{line_refused, line_done, line_next, line_shorter, end_read}
use Rattle.job.proofs.Held.{held_right, too_long}
use Rattle.job.proofs.RoundTrip.{job_right}
use Rattle.job.proofs.record.Job.read.Goals as goal

pub returns-then-text-gt65536 : goal.returns-then-text-gt65536
returns-then-text-gt65536 c =
    record { answer = (too_long c.args.text.now c.if-text-gt65536.true, c.clear.ensures.emptied, c.clear.ensures.unheld); written = tt; theorems = job_right }

pub returns-in-Err : goal.returns-in-Err
returns-in-Err c =
    let p = c.in-Some.ensures in
    record {
      answer = (
        sym c.loop-bytes.invariant.0 ∙ line_refused (draft_of c.loop-bytes.self.draft) _ _ _ c.loop-bytes.line p.0 p.1 _ c.in-Err.ensures,
        c.clear-in-Err.ensures.emptied,
        c.clear-in-Err.ensures.unheld,
      );
      written = tt;
      theorems = job_right;
    }

pub invariant_of-self-then-is_done : goal.invariant_of-self-then-is_done
invariant_of-self-then-is_done c =
    let p = c.in-Some.ensures in
    let r = sym c.loop-bytes.invariant.0
    ∙ line_done (draft_of c.loop-bytes.self.draft) _ _ _ c.loop-bytes.line p.0 p.1 _ c.in_default-take_line.ensures (sym c.if-is_done.ensures) in
    record { right = held_right c.args.text.now (contents c.take_line.new.self) c.in-Some.rest.now c.if-text-gt65536.false r }

pub returns-then-is_done : goal.returns-then-is_done
returns-then-is_done c =
    let p = c.in-Some.ensures in
    let r = sym c.loop-bytes.invariant.0
    ∙ line_done (draft_of c.loop-bytes.self.draft) _ _ _ c.loop-bytes.line p.0 p.1 _ c.in_default-take_line.ensures (sym c.if-is_done.ensures) in
    record { answer = (r, refl); written = job_right.writes c.args.text.now (contents c.take_line.new.self) c.in-Some.rest.now r; theorems = job_right }

pub loop-bytes-preserved : goal.loop-bytes-preserved
loop-bytes-preserved c =
    let p = c.in-Some.ensures in
    let d = draft_of c.loop-bytes.self.draft in
    let s = line_shorter d _ _ _ c.loop-bytes.line p.0 p.1 in (
      sym (line_next d _ _ _ c.loop-bytes.line p.0 p.1 _ c.in_default-take_line.ensures (sym c.if-is_done.ensures)) ∙ c.loop-bytes.invariant.0,
      omega (arith, c.loop-bytes.invariant.1),
      c.loop-bytes.invariant.2,
    )

pub returns : goal.returns
returns c =
    record {
      answer = (
        sym c.loop-bytes.invariant.0
            ∙ (end_read c.loop-bytes.left.now (draft_of c.loop-bytes.self.draft) [] c.loop-bytes.line c.in_default.ensures
            ∙ ap (λ x. Err (record { fault = x; line = c.loop-bytes.line })) (sym c.last_fault.ensures)),
        c.clear-2.ensures.emptied,
        c.clear-2.ensures.unheld,
      );
      written = tt;
      theorems = job_right;
    }
