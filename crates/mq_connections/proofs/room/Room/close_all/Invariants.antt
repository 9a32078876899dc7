use Rattle.std.proofs.Common.{◌≡◌}
use Rattle.std.specs.BTreeMap.{btree_map_len}
use Rattle.mq_connections.specs.Sessions.{KeepsGoing, held}
use Rattle.mq_connections.proofs.room.Room.close_all.Given as goal

abbrev pub decreases-loop-number : goal.decreases-loop-number
decreases-loop-number g l = btree_map_len l.self.opened

-- the sessions go on by each connection that is closed
abbrev pub invariant-loop-number : goal.invariant-loop-number
invariant-loop-number g l = record {
  last : l.self.last ≡ l.fn.self.last;
  over : g.N.Network.is_over l.fn.network → g.N.Network.is_over l.network;
  goes : KeepsGoing (held l.fn.self.opened) (g.N.Network.wire l.fn.network) (held l.self.opened) (g.N.Network.wire l.network);
}
