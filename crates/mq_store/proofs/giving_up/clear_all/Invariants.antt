use Rattle.std.proofs.Common.{IsTrue, drop}
use Rattle.mq_store.proofs.Words.{HasCleanDisk, HasLedger, CommitsNothing, Tables, state}
use Rattle.mq_store.proofs.Clearings.{IsToClear}
use Rattle.mq_store.proofs.giving_up.clear_all.Given as goal

-- the places that are left to clear lead to the tables where all are cleared
abbrev pub invariant-loop-place : goal.invariant-loop-place
invariant-loop-place g l =
    let old = state g.S.Store l.fn.tx.conn.now in
    let now = state g.S.Store l.tx.conn.now in
    CommitsNothing g.S.Store l.fn.tx l.tx
    × (HasCleanDisk now → IsTrue now.in_transaction
    × ((t : Tables) → HasLedger old.now t → IsToClear t l.places (drop l.place-index l.places) now.now))
