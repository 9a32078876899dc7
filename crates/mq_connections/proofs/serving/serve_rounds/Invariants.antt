use Rattle.std.proofs.Common.{None}
use Rattle.mq_ledger.specs.Leaving.{LeavesLedger}
use Rattle.mq_chore.specs.Choring.{Fitted}
use Rattle.mq_connections.specs.Gained.{callers}
use Rattle.mq_connections.specs.Sessions.{GoesOn, Outside, held}
use Rattle.mq_connections.proofs.serving.serve_rounds.Given as goal

-- what each round leaves of the ledger's promises, and of the connections'
abbrev pub invariant-loop-round : goal.invariant-loop-round
invariant-loop-round g l = record {
  leaves : LeavesLedger g.L.Ledger.book g.L.Ledger.has_kept g.L.Ledger.is_sound g.L.Ledger.has_store l.fn.ledger l.ledger;
  fits : g.L.Ledger.has_kept l.ledger → g.L.Ledger.is_sound l.fn.ledger → Fitted (g.K.Chore.fits l.fn.chore) (g.L.Ledger.book l.fn.ledger) → Fitted (g.K.Chore.fits l.chore) (g.L.Ledger.book l.ledger);
  goes : g.L.Ledger.has_kept l.ledger → g.L.Ledger.is_sound l.fn.ledger → (old : Outside) →
      GoesOn (callers l.permits g.N.Network.peers) old (record { book = g.L.Ledger.book l.fn.ledger; told = g.L.Ledger.told l.fn.ledger; wires = g.N.Network.wire l.fn.network }) l.fn.room.last (held l.fn.room.opened) None →
      GoesOn (callers l.permits g.N.Network.peers) old (record { book = g.L.Ledger.book l.ledger; told = g.L.Ledger.told l.ledger; wires = g.N.Network.wire l.network }) l.room.last (held l.room.opened) None;
}
