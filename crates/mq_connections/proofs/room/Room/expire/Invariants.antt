use Rattle.std.proofs.Common.{◌≡◌}
use Rattle.mq_connections.specs.Sessions.{KeepsGoing, held}
use Rattle.mq_connections.proofs.room.Room.expire.Given as goal

-- the sessions go on by each connection that is given up
abbrev pub invariant-loop-late : goal.invariant-loop-late
invariant-loop-late g l = record {
  last : l.self.last ≡ l.fn.self.last;
  goes : KeepsGoing (held l.fn.self.opened) (g.N.Network.wire l.fn.network) (held l.self.opened) (g.N.Network.wire l.network);
}
