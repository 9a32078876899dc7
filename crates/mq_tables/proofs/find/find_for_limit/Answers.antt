use Rattle.mq_tables.proofs.Words.{state, unchanged_then}
use Rattle.mq_tables.proofs.Chain.{was_clean}
use Rattle.mq_tables.proofs.Keyed.{limit_so}
use Rattle.mq_tables.proofs.find.find_for_limit.Goals as goal

pub returns-clause-same : goal.returns-clause-same
returns-clause-same g c clean =
    let mid = was_clean c.find_limit.ensures.leaves clean in
    unchanged_then _ _ _ (c.in_ok-over.ensures.same mid) (c.in_ok-limit.ensures.same clean)

pub returns-clause-found : goal.returns-clause-found
returns-clause-found g c clean =
    let mid = was_clean c.find_limit.ensures.leaves clean in
    limit_so (state g.S.Store c.args.tx.now.conn.now) (state g.S.Store c.find_over.new.tx.conn.now) (c.in_ok-over.ensures.same mid)
    c.args.login.now c.args.from_day c.args.cap c.in_ok-over.over c.in_ok-limit.limit (c.in_ok-over.ensures.found mid) (c.in_ok-limit.ensures.found clean)
