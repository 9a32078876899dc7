use Rattle.mq_tables.proofs.Words.{state}
use Rattle.mq_tables.proofs.Chain.{on_ok, was_clean}
use Rattle.mq_tables.proofs.making.WithRule.{indexed_made, index_inside}
use Rattle.mq_tables.proofs.create.make_tables.Goals as goal

pub returns-clause-made : goal.returns-clause-made
returns-clause-made g c clean =
    on_ok c.add_index.result (c.add_index.ensures.made clean)
    (indexed_made c.args.indexed c.args.made_with.now (state g.S.Store c.args.tx.now.conn.now) (state g.S.Store c.make_seven.new.tx.conn.now) (state g.S.Store c.add_index.new.tx.conn.now) (c.in_ok-make_seven.ensures.made (was_clean c.add_index.ensures.leaves clean)))

pub returns-clause-inside : goal.returns-clause-inside
returns-clause-inside g c clean = on_ok c.add_index.result (c.add_index.ensures.made clean) (index_inside c.args.indexed (state g.S.Store c.make_seven.new.tx.conn.now) (state g.S.Store c.add_index.new.tx.conn.now))
