use Rattle.std.proofs.Common.{All, length, ◌≡◌}
use Rattle.mq_store.proofs.Words.{HasCleanDisk, IsRow, CommitsNothing, state}
use Rattle.mq_store.specs.Taking.{Stays}
use Rattle.mq_store.specs.Paging.{IsBegunIn}
use Rattle.mq_store.proofs.listing.page.Given as goal

abbrev pub invariant-loop : goal.invariant-loop
invariant-loop g l =
    let old = state g.S.Store l.fn.tx.conn.now in
    let now = state g.S.Store l.tx.conn.now in
    CommitsNothing g.S.Store l.fn.tx l.tx
    × (HasCleanDisk now → Stays old now × IsBegunIn l.default l.day l.after old.now l.counter l.rows.items l.last)
    × All IsRow l.rows.items
    × (length l.rows.items ≡ l.counter)
