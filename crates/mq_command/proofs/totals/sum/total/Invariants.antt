use Rattle.mq_command.proofs.Words.{row_at, sum_by, take, ◌≡◌}
use Rattle.mq_command.proofs.totals.sum.total.Given as goal

-- the sums of the parts so far
abbrev pub invariant-loop-part : goal.invariant-loop-part
invariant-loop-part l = record {
  login : l.sum.login ≡ l.login;
  settled : l.sum.settled ≡ sum_by (λ part. (row_at l.place part).settled) (take l.part-index l.parts);
  reserved : l.sum.reserved ≡ sum_by (λ part. (row_at l.place part).reserved) (take l.part-index l.parts);
  cap : l.sum.cap ≡ sum_by (λ part. (row_at l.place part).cap) (take l.part-index l.parts);
}
