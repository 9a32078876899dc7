use Rattle.mq_tables.proofs.Words.{state, unchanged_then}
use Rattle.mq_tables.proofs.Chain.{was_clean}
use Rattle.mq_tables.proofs.Keyed.{reserve_so}
use Rattle.mq_tables.proofs.find.find_for_reserve.Goals as goal

pub returns-clause-same : goal.returns-clause-same
returns-clause-same g c clean =
    let mid = was_clean c.find_governing.ensures.leaves clean in
    unchanged_then _ _ _ (c.in_ok-found.ensures.same mid) (c.in_ok-governing.ensures.same clean)

pub returns-clause-found : goal.returns-clause-found
returns-clause-found g c clean =
    let mid = was_clean c.find_governing.ensures.leaves clean in
    reserve_so (state g.S.Store c.args.tx.now.conn.now) (state g.S.Store c.find_named.new.tx.conn.now) (c.in_ok-found.ensures.same mid)
    c.args.id.now c.args.txn c.args.login.now c.args.day c.in_ok-found.found c.in_ok-governing.governing (c.in_ok-found.ensures.found mid) (c.in_ok-governing.ensures.found clean)
