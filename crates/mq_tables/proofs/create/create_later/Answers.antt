use Rattle.mq_tables.proofs.Words.{state}
use Rattle.mq_tables.proofs.Chain.{on_ok, was_clean}
use Rattle.mq_tables.proofs.making.Makes.{adds_later}
use Rattle.mq_tables.proofs.create.create_later.Goals as goal

pub returns-clause-added : goal.returns-clause-added
returns-clause-added g c clean =
    on_ok c.create_retired.result (c.create_retired.ensures.made clean) (adds_later (state g.S.Store c.args.tx.now.conn.now) (state g.S.Store c.create_rule.new.tx.conn.now) (state g.S.Store c.create_retired.new.tx.conn.now) (c.in_ok-create_rule.ensures.made (was_clean c.create_retired.ensures.leaves clean)))
