use Rattle.std.proofs.Common.{◌≡◌, List, length, ◌≤◌}
use Rattle.mq_client.specs.Holding.{freed}
use Rattle.mq_client.proofs.Words.{AllByRecursion, Exchange, IsFramed, SendsSome, Tells, requests_of, told_all}
use Rattle.mq_client.proofs.tries.send_all.Given as goal

abbrev pub invariant-loop-closing : goal.invariant-loop-closing
invariant-loop-closing g l = record {
  done : List Exchange;
  told : Tells (g.L.Link.told l.initial.link) (g.L.Link.told l.link) (told_all done);
  sends : SendsSome l.tries (requests_of l.initial.outbox.items) done (requests_of l.outbox.items);
  framed : AllByRecursion IsFramed l.outbox.items;
  len : length l.outbox.items ≤ length l.initial.outbox.items;
  freed : l.holdup ≡ (l.initial.holdup.0, freed done l.initial.holdup.1);
}

abbrev pub decreases-loop-closing : goal.decreases-loop-closing
decreases-loop-closing g l = length l.outbox.items
