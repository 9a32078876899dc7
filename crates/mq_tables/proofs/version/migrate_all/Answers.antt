use Rattle.mq_tables.proofs.Words.{state}
use Rattle.mq_tables.proofs.Chain.{any_ok, on_ok, was_clean}
use Rattle.mq_tables.proofs.making.Adding.{migrated_indexed}
use Rattle.mq_tables.proofs.making.WithRule.{index_inside}
use Rattle.mq_tables.proofs.version.migrate_all.Goals as goal

pub returns-clause-migrated : goal.returns-clause-migrated
returns-clause-migrated g c clean =
    on_ok c.add_index.result (c.add_index.ensures.made clean)
    (migrated_indexed c.args.indexed c.args.has_rule_table (state g.S.Store c.args.tx.now.conn.now) (state g.S.Store c.migrate_tables.new.tx.conn.now) (state g.S.Store c.add_index.new.tx.conn.now) (c.in_ok-migrate_tables.ensures.migrated (was_clean c.add_index.ensures.leaves clean)))

pub returns-clause-inside : goal.returns-clause-inside
returns-clause-inside g c clean = on_ok c.add_index.result (c.add_index.ensures.made clean) (index_inside c.args.indexed (state g.S.Store c.migrate_tables.new.tx.conn.now) (state g.S.Store c.add_index.new.tx.conn.now))

pub returns-clause-open : goal.returns-clause-open
returns-clause-open g c clean = any_ok c.add_index.result (c.in_ok-migrate_tables.ensures.open (was_clean c.add_index.ensures.leaves clean))
