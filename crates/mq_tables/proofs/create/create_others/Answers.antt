use Rattle.mq_tables.proofs.Words.{state}
use Rattle.mq_tables.proofs.Chain.{on_ok, was_clean}
use Rattle.mq_tables.proofs.making.Makes.{adds_others}
use Rattle.mq_tables.proofs.create.create_others.Goals as goal

pub returns-clause-added : goal.returns-clause-added
returns-clause-added g c clean =
    on_ok c.create_later.result (c.create_later.ensures.added clean) (adds_others (state g.S.Store c.args.tx.now.conn.now) (state g.S.Store c.create_four.new.tx.conn.now) (state g.S.Store c.create_later.new.tx.conn.now) (c.in_ok-create_four.ensures.added (was_clean c.create_later.ensures.leaves clean)))
