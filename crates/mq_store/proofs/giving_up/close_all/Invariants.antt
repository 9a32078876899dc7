use Rattle.std.proofs.Common.{IsTrue, drop}
use Rattle.mq_store.proofs.Words.{Book, HasCleanDisk, HasLedger, LeadsAll, CommitsNothing, MovesLead, Plan, Tables, state}
use Rattle.mq_store.proofs.Closings.{IsLeft}
use Rattle.mq_store.proofs.giving_up.close_all.Given as goal

-- the tables lead to the book by the closings that are left
abbrev pub invariant-loop-was : goal.invariant-loop-was
invariant-loop-was g l =
    let old = state g.S.Store l.fn.tx.conn.now in
    let now = state g.S.Store l.tx.conn.now in
    CommitsNothing g.S.Store l.fn.tx l.tx
    × (HasCleanDisk now → IsTrue now.in_transaction
    × ((t : Tables) → HasLedger old.now t → (b : Book) (p : Plan) → LeadsAll l.transactions t.transactions t.usage (MovesLead b p) → IsLeft t b p (drop l.was-index l.transactions) now.now))
