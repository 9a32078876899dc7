use Rattle.mq_store.proofs.Words.{on_ok_weaker, state, was_clean}
use Rattle.mq_store.proofs.Writing.{writes}
use Rattle.mq_store.proofs.write.write_plan.Goals as goal

pub returns-clause-written : goal.returns-clause-written
returns-clause-written g c clean =
    let three = was_clean c.write_rows.ensures.leaves clean in
    let two = was_clean c.set_arrivals.ensures.leaves three in
    let one = was_clean c.append_answer.ensures.leaves two in
    on_ok_weaker c.write_rows.result (writes c.args.plan.now (state g.S.Store c.args.tx.now.conn.now) (state g.S.Store c.give_up.new.tx.conn.now) (state g.S.Store c.append_answer.new.tx.conn.now) (state g.S.Store c.set_arrivals.new.tx.conn.now) (state g.S.Store c.write_rows.new.tx.conn.now)
    (c.in_ok-give_up.ensures.given_up one) (c.in_ok-append_answer.ensures.appended two) (c.in_ok-set_arrivals.ensures.counted three)) (c.write_rows.ensures.written clean)
