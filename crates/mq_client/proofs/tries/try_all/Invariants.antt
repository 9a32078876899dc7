use Rattle.std.proofs.Common.{◌≡◌, List, length}
use Rattle.mq_client.proofs.Words.{AreFailed, Exchange, Tells, has_timed_out, told_all}
use Rattle.mq_client.proofs.tries.try_all.Given as goal

-- so many exchanges, and all of them failed, by running out of time or else
abbrev pub invariant-loop-attempt : goal.invariant-loop-attempt
invariant-loop-attempt g l = record {
  done : List Exchange;
  told : Tells (g.L.Link.told l.initial.link) (g.L.Link.told l.link) (told_all done);
  failed : AreFailed l.framed.request done;
  count : length done ≡ l._attempt;
  late : l.timed_out ≡ has_timed_out done;
}
