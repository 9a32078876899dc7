use Rattle.std.proofs.Common.{arith, IsTrue}
use Rattle.sqlite.specs.Held.{state}
use Rattle.mq_tables.specs.Reading.{floors_text}
use Rattle.mq_tables.proofs.floors.All.{floors_select, floors_read, floors_answered}
use Rattle.mq_tables.proofs.SelectShape.{bare}
use Rattle.mq_tables.proofs.Spared.{spares_all, shows_open}
use Rattle.mq_tables.proofs.floor.read_floors.Goals as goal

pub returns-clause-autocommit : goal.returns-clause-autocommit
returns-clause-autocommit g c = c.query_all.ensures.mode (rw c.set_step_limit.ensures c.requires.autocommit)

pub returns-clause-unlimited : goal.returns-clause-unlimited
returns-clause-unlimited g c = rw c.set_step_limit.ensures at c.query_all.ensures.survives.limit

pub returns-clause-read : goal.returns-clause-read
returns-clause-read g c clean =
    floors_read (state g.S.Store c.args.connection.now) (state g.S.Store c.query_all.new.self) c.query_all.result (rw c.set_step_limit.ensures at (c.query_all.ensures.ok clean)) (rw c.set_step_limit.ensures at (c.query_all.ensures.err clean))

pub returns-clause-spares : goal.returns-clause-spares
returns-clause-spares g c clean =
    let autocommit : IsTrue c.is_autocommit-settled.result = rw (c.is_autocommit-settled.ensures.value, c.set_step_limit.ensures, c.requires.autocommit) in
    spares_all floors_text (bare floors_select) (state g.S.Store c.args.connection.now) (state g.S.Store c.query_all.new.self) c.query_all.result
    (rw c.set_step_limit.ensures at (c.is_autocommit-settled.ensures.settled autocommit)) (rw c.set_step_limit.ensures at (c.query_all.ensures.ok clean)) (rw c.set_step_limit.ensures at (c.query_all.ensures.err clean)) (rw c.set_step_limit.ensures at c.query_all.ensures.survives) clean

pub returns-clause-clean : goal.returns-clause-clean
returns-clause-clean g c clean = omega (arith, rw c.set_step_limit.ensures at c.query_all.ensures.survives.clean)

pub returns-clause-floors : goal.returns-clause-floors
returns-clause-floors g c clean floors has =
    floors_answered (state g.S.Store c.args.connection.now) (state g.S.Store c.query_all.new.self) floors has c.query_all.result (returns-clause-read g c clean)

pub returns-clause-open : goal.returns-clause-open
returns-clause-open g c clean =
    shows_open floors_text (bare floors_select) (state g.S.Store c.set_step_limit.new.self) (state g.S.Store c.query_all.new.self) c.query_all.result (c.query_all.ensures.ok clean)
