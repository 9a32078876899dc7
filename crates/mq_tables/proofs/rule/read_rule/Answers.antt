use Rattle.std.proofs.Common.{arith, IsTrue}
use Rattle.sqlite.specs.Held.{state}
use Rattle.mq_tables.specs.Reading.{rule_text}
use Rattle.mq_tables.proofs.settings.Rule.{rule_select, rule_answered}
use Rattle.mq_tables.proofs.SelectShape.{bare}
use Rattle.mq_tables.proofs.Spared.{spares}
use Rattle.mq_tables.proofs.rule.read_rule.Goals as goal

pub returns-clause-autocommit : goal.returns-clause-autocommit
returns-clause-autocommit g c = c.query_row.ensures.mode (rw c.set_step_limit.ensures c.requires.autocommit)

pub returns-clause-unlimited : goal.returns-clause-unlimited
returns-clause-unlimited g c = rw c.set_step_limit.ensures at c.query_row.ensures.survives.limit

pub returns-clause-read : goal.returns-clause-read
returns-clause-read g c clean = rw c.set_step_limit.ensures at (c.query_row.ensures.row clean)

pub returns-clause-spares : goal.returns-clause-spares
returns-clause-spares g c clean =
    let autocommit : IsTrue c.is_autocommit-settled.result = rw (c.is_autocommit-settled.ensures.value, c.set_step_limit.ensures, c.requires.autocommit) in
    spares rule_text (bare rule_select) (state g.S.Store c.args.connection.now) (state g.S.Store c.query_row.new.self) c.query_row.result
    (rw c.set_step_limit.ensures at (c.is_autocommit-settled.ensures.settled autocommit)) (rw c.set_step_limit.ensures at (c.query_row.ensures.row clean)) (rw c.set_step_limit.ensures at c.query_row.ensures.survives) clean

pub returns-clause-row : goal.returns-clause-row
returns-clause-row g c clean rule has =
    rule_answered (state g.S.Store c.args.connection.now) (state g.S.Store c.query_row.new.self) rule has c.query_row.result (rw c.set_step_limit.ensures at (c.query_row.ensures.row clean))

pub returns-clause-clean : goal.returns-clause-clean
returns-clause-clean g c clean = omega (arith, rw c.set_step_limit.ensures at c.query_row.ensures.survives.clean)
