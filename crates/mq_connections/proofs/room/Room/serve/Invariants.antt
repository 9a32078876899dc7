use Rattle.std.proofs.Common.{None}
use Rattle.mq_ledger.specs.Leaving.{LeavesLedger}
use Rattle.mq_server.specs.Delivery.{HasGrown}
use Rattle.mq_connections.specs.Gained.{callers}
use Rattle.mq_connections.specs.Sessions.{GoesOn, Outside, held}
use Rattle.mq_connections.proofs.room.Room.serve.Given as goal

-- what each connection leaves of the ledger's promises, and of the others'
abbrev pub invariant-loop-number : goal.invariant-loop-number
invariant-loop-number g l = record {
  leaves : LeavesLedger g.L.Ledger.book g.L.Ledger.has_kept g.L.Ledger.is_sound g.L.Ledger.has_store l.fn.ledger l.ledger;
  grows : g.L.Ledger.has_kept l.ledger → g.L.Ledger.is_sound l.fn.ledger → HasGrown (g.L.Ledger.book l.fn.ledger) (g.L.Ledger.book l.ledger);
  goes : g.L.Ledger.has_kept l.ledger → g.L.Ledger.is_sound l.fn.ledger → (old : Outside) →
      GoesOn (callers l.permits g.N.Network.peers) old (record { book = g.L.Ledger.book l.fn.ledger; told = g.L.Ledger.told l.fn.ledger; wires = g.N.Network.wire l.fn.network }) l.fn.self.last (held l.fn.self.opened) None →
      GoesOn (callers l.permits g.N.Network.peers) old (record { book = g.L.Ledger.book l.ledger; told = g.L.Ledger.told l.ledger; wires = g.N.Network.wire l.network }) l.self.last (held l.self.opened) None;
}
