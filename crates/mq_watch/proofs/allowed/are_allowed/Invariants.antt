use Rattle.std.proofs.Common.{◌≡◌, drop}
use Rattle.mq_watch.specs.Allowed.{are_allowed}
use Rattle.mq_watch.proofs.allowed.are_allowed.Given as goal

-- whether all are allowed is whether those from this place on are
abbrev pub invariant-loop-at : goal.invariant-loop-at
invariant-loop-at l = record {
  same : are_allowed l.permits (drop l.at l.peers) (drop l.at l.requests) ≡ are_allowed l.permits l.peers l.requests;
}
