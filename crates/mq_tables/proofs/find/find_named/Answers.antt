use Rattle.mq_tables.proofs.Words.{state, unchanged_then}
use Rattle.mq_tables.proofs.Chain.{was_clean}
use Rattle.mq_tables.proofs.Keyed.{named_so}
use Rattle.mq_tables.proofs.find.find_named.Goals as goal

pub returns-clause-same : goal.returns-clause-same
returns-clause-same g c clean =
    let mid = was_clean c.find_usage.ensures.leaves clean in
    unchanged_then _ _ _ (c.in_ok-transaction.ensures.same mid) (c.in_ok-usage.ensures.same clean)

pub returns-clause-found : goal.returns-clause-found
returns-clause-found g c clean =
    let mid = was_clean c.find_usage.ensures.leaves clean in
    named_so (state g.S.Store c.args.tx.now.conn.now) (state g.S.Store c.find_transaction.new.tx.conn.now) (c.in_ok-transaction.ensures.same mid)
    c.args.id.now c.args.txn c.args.login.now c.args.day c.in_ok-transaction.transaction c.in_ok-usage.usage (c.in_ok-transaction.ensures.found mid) (c.in_ok-usage.ensures.found clean)
