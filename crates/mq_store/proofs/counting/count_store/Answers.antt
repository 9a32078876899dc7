use Rattle.std.proofs.Common.{rules}
use Rattle.mq_store.proofs.Words.{HasCleanDisk, state}
use Rattle.mq_store.proofs.counting.count_store.Goals as goal

pub returns-clause-counted : goal.returns-clause-counted
returns-clause-counted g c clean =
    let inside : HasCleanDisk (state g.S.Store c.read_arrivals.new.tx.conn.now) = search rules in
    rw c.transaction-tx.ensures.begun at (c.in_ok-read_arrivals.ensures.found inside)
