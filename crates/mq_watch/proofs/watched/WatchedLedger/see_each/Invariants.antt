use Rattle.std.proofs.Common.{◌≡◌}
use Rattle.mq_ledger.specs.Leaving.{LeavesLedger}
use Rattle.mq_watch.proofs.watched.WatchedLedger.see_each.Given as goal

-- what is seen of each leaves the ledger's promises and its history
abbrev pub invariant-loop-at : goal.invariant-loop-at
invariant-loop-at g l = record {
  leaves : LeavesLedger g.L.Ledger.book g.L.Ledger.has_kept g.L.Ledger.is_sound g.L.Ledger.has_store l.fn.self l.self;
  history : g.L.Ledger.has_kept l.self → g.L.Ledger.is_sound l.fn.self → (g.L.Ledger.book l.self).history ≡ (g.L.Ledger.book l.fn.self).history;
}
