use Rattle.mq_connections.specs.Asking.{KeepsServing}
use Rattle.mq_connections.specs.Sessions.{held}
use Rattle.mq_connections.proofs.room.Room.read_all.Given as goal

-- the sessions go on by what is read of each
abbrev pub invariant-loop-number : goal.invariant-loop-number
invariant-loop-number g l = record {
  goes : KeepsServing (held l.fn.self.opened) (g.N.Network.wire l.fn.network) l.fn.self.last (held l.self.opened) (g.N.Network.wire l.network) l.self.last;
}
