use Rattle.std.proofs.Common.{◌≡◌, replicate, vec_len, vec_capacity}
use Rattle.job.proofs.draft.taking.fill_with_noughts.Given as goal

abbrev pub invariant-loop : goal.invariant-loop
invariant-loop l = record {
  items : l.letters.items ≡ replicate l.counter 0;
  len : vec_len l.letters ≡ l.counter;
  capacity : vec_capacity l.letters ≡ vec_capacity l.initial.letters;
}
