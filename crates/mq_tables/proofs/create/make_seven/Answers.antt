use Rattle.mq_ledger.specs.Day.{rule_in}
use Rattle.mq_tables.proofs.Words.{state}
use Rattle.mq_tables.proofs.Chain.{on_ok, was_clean}
use Rattle.mq_tables.proofs.making.WithRule.{made_all, inside_by}
use Rattle.mq_tables.proofs.create.make_seven.Goals as goal

pub returns-clause-made : goal.returns-clause-made
returns-clause-made g c clean =
    let two = was_clean c.put_any_rule.ensures.leaves clean in
    let one = was_clean c.create_others.ensures.leaves two in
    on_ok c.put_any_rule.result (c.put_any_rule.ensures.put clean)
    (made_all c.args.made_with.now (state g.S.Store c.args.tx.now.conn.now) (state g.S.Store c.begin_setting.new.tx.conn.now) (state g.S.Store c.create_others.new.tx.conn.now) (state g.S.Store c.put_any_rule.new.tx.conn.now) (c.in_ok-begin_setting.ensures.started one) (c.in_ok-create_others.ensures.added two))

pub returns-clause-inside : goal.returns-clause-inside
returns-clause-inside g c clean = on_ok c.put_any_rule.result (c.put_any_rule.ensures.put clean) (inside_by (rule_in c.args.made_with.now.zone) (state g.S.Store c.create_others.new.tx.conn.now) (state g.S.Store c.put_any_rule.new.tx.conn.now))
