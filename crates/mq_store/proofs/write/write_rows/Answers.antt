use Rattle.mq_store.proofs.Words.{state, was_clean}
use Rattle.mq_store.proofs.Writing.{moves}
use Rattle.mq_store.proofs.write.write_rows.Goals as goal

pub returns-clause-written : goal.returns-clause-written
returns-clause-written g c clean =
    let three = was_clean c.write_floor.ensures.leaves clean in
    let two = was_clean c.write_limit.ensures.leaves three in
    let one = was_clean c.write_usage.ensures.leaves two in
    moves c.args.plan.now (state g.S.Store c.args.tx.now.conn.now) (state g.S.Store c.write_transaction.new.tx.conn.now) (state g.S.Store c.write_usage.new.tx.conn.now) (state g.S.Store c.write_limit.new.tx.conn.now) (state g.S.Store c.write_floor.new.tx.conn.now)
    (c.in_ok-write_transaction.ensures.written one) (c.in_ok-write_usage.ensures.written two) (c.in_ok-write_limit.ensures.written three) (c.in_ok-write_floor.ensures.written clean)
