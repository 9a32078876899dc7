use Rattle.std.proofs.Common.{arith, IsTrue}
use Rattle.mq_tables.proofs.Words.{state}
use Rattle.mq_tables.specs.Reading.{setting_text}
use Rattle.mq_tables.proofs.settings.Reads.{setting_bare, of_setting, read_open}
use Rattle.mq_tables.proofs.Spared.{spares}
use Rattle.mq_tables.proofs.setting.read_setting.Goals as goal

pub returns-clause-autocommit : goal.returns-clause-autocommit
returns-clause-autocommit g c = c.query_row-answer.ensures.mode (rw c.set_step_limit.ensures c.requires.autocommit)

pub returns-clause-unlimited : goal.returns-clause-unlimited
returns-clause-unlimited g c = rw c.set_step_limit.ensures at c.query_row-answer.ensures.survives.limit

pub returns-clause-read : goal.returns-clause-read
returns-clause-read g c clean = record { answer = c.query_row-answer.result; queried = rw c.set_step_limit.ensures at (c.query_row-answer.ensures.row clean); read_is = c.reading.ensures }

pub returns-clause-spares : goal.returns-clause-spares
returns-clause-spares g c clean =
    let autocommit : IsTrue c.is_autocommit-settled.result = rw (c.is_autocommit-settled.ensures.value, c.set_step_limit.ensures, c.requires.autocommit) in
    spares setting_text setting_bare (state g.S.Store c.args.connection.now) (state g.S.Store c.query_row-answer.new.self) c.query_row-answer.result (rw c.set_step_limit.ensures at (c.is_autocommit-settled.ensures.settled autocommit))
    (rw c.set_step_limit.ensures at (c.query_row-answer.ensures.row clean)) (rw c.set_step_limit.ensures at c.query_row-answer.ensures.survives) clean

pub returns-clause-open : goal.returns-clause-open
returns-clause-open g c clean = read_open (state g.S.Store c.set_step_limit.new.self) (state g.S.Store c.query_row-answer.new.self) c.query_row-answer.result c.reading.result c.reading.ensures (c.query_row-answer.ensures.row clean)

pub returns-clause-row : goal.returns-clause-row
returns-clause-row g c clean = of_setting (state g.S.Store c.args.connection.now) (state g.S.Store c.query_row-answer.new.self) c.reading.result (returns-clause-read g c clean)

pub returns-clause-clean : goal.returns-clause-clean
returns-clause-clean g c clean = omega (arith, rw c.set_step_limit.ensures at c.query_row-answer.ensures.survives.clean)
