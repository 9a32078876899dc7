use Rattle.std.proofs.Common.{IsTrue}
use Rattle.mq_tables.proofs.Words.{state}
use Rattle.mq_tables.proofs.Chain.{on_ok}
use Rattle.mq_tables.proofs.audits.Rows.{after_either, spares}
use Rattle.mq_tables.proofs.figures.read_figures.Goals as goal

pub returns-clause-same : goal.returns-clause-same
returns-clause-same g c clean = on_ok c.give_rows.result (c.give_rows.ensures.given clean) (λ both. both.0)

pub returns-clause-given : goal.returns-clause-given
returns-clause-given g c clean = on_ok c.give_rows.result (c.give_rows.ensures.given clean) (λ both. both.1)

pub returns-clause-spares : goal.returns-clause-spares
returns-clause-spares g c clean =
    let s = state g.S.Store c.args.connection.now in
    let v = state g.S.Store c.give_rows.new.connection in
    let autocommit : IsTrue c.is_autocommit-settled.result = rw (c.is_autocommit-settled.ensures.value, c.requires.autocommit) in
    spares s v (c.is_autocommit-settled.ensures.settled autocommit)
    (after_either c.give_rows.result (on_ok c.give_rows.result (c.give_rows.ensures.given clean) (λ both. both.0)) (c.give_rows.ensures.left clean)) c.give_rows.ensures.survives clean
