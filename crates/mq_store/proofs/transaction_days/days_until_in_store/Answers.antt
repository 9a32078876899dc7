use Rattle.std.proofs.Common.{rules}
use Rattle.mq_store.proofs.Words.{HasCleanDisk, state}
use Rattle.mq_store.proofs.transaction_days.days_until_in_store.Goals as goal

pub returns-clause-found : goal.returns-clause-found
returns-clause-found g c clean =
    let inside : HasCleanDisk (state g.S.Store c.days_until.new.tx.conn.now) = search rules in
    rw c.transaction-tx.ensures.begun at (c.in_ok-days_until.ensures.found inside)
