use Rattle.std.proofs.Common.{◌≡◌, ◌≢◌, ℕ, Some, Err}
use Rattle.mq_ledger.specs.Leaving.{LeavesLedger}
use Rattle.mq_server.specs.declared.connection.Progress.TheVariants.{Answered}
use Rattle.mq_server.specs.declared.fault.ServeFault.TheVariants.{Store}
use Rattle.mq_connections.specs.Turns.{Turns}
use Rattle.mq_connections.proofs.opened.take_turns.Given as goal

-- what each turn leaves of the ledger's promises, and of the connection's
abbrev pub invariant-loop-turn : goal.invariant-loop-turn
invariant-loop-turn g l = record {
  others : (n : ℕ) → n ≢ l.number → g.N.Network.wire l.network n ≡ g.N.Network.wire l.fn.network n;
  works : l.fn.opened.connection.end ≢ Some (Err Store) → l.opened.connection.end ≢ Some (Err Store);
  leaves : LeavesLedger g.L.Ledger.book g.L.Ledger.has_kept g.L.Ledger.is_sound g.L.Ledger.has_store l.fn.ledger l.ledger;
  turns : g.L.Ledger.has_kept l.ledger → g.L.Ledger.is_sound l.fn.ledger → Turns (g.L.Ledger.book l.fn.ledger) (g.L.Ledger.book l.ledger).history (g.L.Ledger.told l.fn.ledger) (g.L.Ledger.told l.ledger) Answered
      (g.N.Network.wire l.fn.network l.number) (g.N.Network.wire l.network l.number) l.fn.opened.connection l.opened.connection;
}
