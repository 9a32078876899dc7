use Rattle.mq_connections.specs.Asking.{AreAsked, ArePeers}
use Rattle.mq_connections.specs.Sessions.{held}
use Rattle.mq_connections.proofs.room.Room.ask_all.Given as goal

-- those that were added stand next
abbrev pub invariant-loop-number : goal.invariant-loop-number
invariant-loop-number g l = record {
  asked : AreAsked (held l.fn.self.opened) l.fn.asked.numbers.items l.fn.asked.requests.items → AreAsked (held l.fn.self.opened) l.asked.numbers.items l.asked.requests.items;
  peers : ArePeers g.N.Network.peers l.fn.asked.numbers.items l.fn.asked.peers.items → ArePeers g.N.Network.peers l.asked.numbers.items l.asked.peers.items;
}
