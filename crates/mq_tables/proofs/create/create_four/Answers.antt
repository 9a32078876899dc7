use Rattle.mq_tables.proofs.Words.{state}
use Rattle.mq_tables.proofs.Chain.{on_ok, was_clean}
use Rattle.mq_tables.proofs.making.Makes.{adds_four}
use Rattle.mq_tables.proofs.create.create_four.Goals as goal

pub returns-clause-added : goal.returns-clause-added
returns-clause-added g c clean =
    let three = was_clean c.create_ceiling.ensures.leaves clean in
    let two = was_clean c.create_usage.ensures.leaves three in
    let one = was_clean c.create_trans.ensures.leaves two in
    on_ok c.create_ceiling.result (c.create_ceiling.ensures.made clean)
    (adds_four (state g.S.Store c.args.tx.now.conn.now) (state g.S.Store c.create_answer.new.tx.conn.now) (state g.S.Store c.create_trans.new.tx.conn.now) (state g.S.Store c.create_usage.new.tx.conn.now) (state g.S.Store c.create_ceiling.new.tx.conn.now)
    (c.in_ok-create_answer.ensures.made one) (c.in_ok-create_trans.ensures.made two) (c.in_ok-create_usage.ensures.made three))
