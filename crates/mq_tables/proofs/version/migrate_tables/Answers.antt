use Rattle.mq_tables.proofs.Words.{state}
use Rattle.mq_tables.proofs.Chain.{any_ok, on_ok, was_clean}
use Rattle.mq_tables.proofs.making.Adding.{migrates_from}
use Rattle.mq_tables.proofs.version.migrate_tables.Goals as goal

pub returns-clause-migrated : goal.returns-clause-migrated
returns-clause-migrated g c clean =
    let two = was_clean c.set_version.ensures.leaves clean in
    let one = was_clean c.create_retired.ensures.leaves two in
    on_ok c.set_version.result (c.set_version.ensures.written clean)
    (migrates_from c.args.has_rule_table (state g.S.Store c.args.tx.now.conn.now) (state g.S.Store c.add_rule.new.tx.conn.now) (state g.S.Store c.create_retired.new.tx.conn.now) (state g.S.Store c.set_version.new.tx.conn.now) (c.in_ok-add_rule.ensures.added one) (c.in_ok-create_retired.ensures.made two))

pub returns-clause-open : goal.returns-clause-open
returns-clause-open g c clean =
    let two = was_clean c.set_version.ensures.leaves clean in
    any_ok c.set_version.result ((c.add_rule.ensures.leaves.kept (was_clean c.create_retired.ensures.leaves two)).was_open (c.in_ok-create_retired.ensures.open two))
