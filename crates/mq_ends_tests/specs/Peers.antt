-- Connections whose peers are in memory, so that all is known of what they carry.
use Rattle.std.specs.Prelude.{ℕ, zero, suc, List, [], get_or, Option, Some, None}
use Rattle.mq_connections.specs.Wires.{Wire}

-- a peer: what it has still to send, what was written to it, and what it left of the last write, where that was kept
pub record Stream : Type 0 where
  pub coming : List ℕ
  pub written : List ℕ
  pub left : Option (List ℕ)

-- one that sends nothing, and to which nothing was written
abbrev pub nobody : Stream
nobody = record { coming = []; written = []; left = None }

-- the peer of the connection of that number: they are counted from 1 on
abbrev pub peer_of : List Stream → ℕ → Stream
peer_of peers zero = nobody
peer_of peers (suc n) = get_or peers n nobody

-- the wire of a peer, and those of the connections of these peers
abbrev pub wire : Stream → Wire
wire peer = record { remaining = Some peer.coming; contents = Some peer.written; left = peer.left }

abbrev pub wires_of : List Stream → ℕ → Wire
wires_of peers n = wire (peer_of peers n)
