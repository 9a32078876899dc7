use Rattle.mq_tables.proofs.Words.{state}
use Rattle.mq_tables.proofs.Chain.{on_ok, was_clean}
use Rattle.mq_tables.specs.Tables.{setting_table}
use Rattle.mq_tables.specs.Making.{setting_row}
use Rattle.mq_tables.proofs.making.Makes.{starts}
use Rattle.mq_tables.proofs.making.NewLedger.{names_selves}
use Rattle.mq_tables.proofs.create.begin_setting.Goals as goal

pub returns-clause-started : goal.returns-clause-started
returns-clause-started g c clean =
    let made = c.in_ok-create_setting.ensures.made (was_clean c.put_setting.ensures.leaves clean) in
    on_ok c.put_setting.result (c.put_setting.ensures.put clean) (λ put. starts setting_table (setting_row c.args.made_with.now) names_selves.0 (state g.S.Store c.args.tx.now.conn.now) (state g.S.Store c.create_setting.new.tx.conn.now) (state g.S.Store c.put_setting.new.tx.conn.now) made put)
