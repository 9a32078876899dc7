use Rattle.mq_tables.proofs.Chain.{is_write}
use Rattle.mq_tables.proofs.settings.Sets.{counts_arrivals}
use Rattle.mq_tables.proofs.setting.set_arrivals.Goals as goal

pub returns-clause-inside : goal.returns-clause-inside
returns-clause-inside g c =
    (is_write _ _ {store = g.S.Store} {old = c.args.tx.now} {new = c.execute.new.self} c.execute.ensures.same_reference c.execute.ensures.survives c.requires.inside (rw c.arrivals_params.ensures at c.execute.ensures.runs) (counts_arrivals c.args.arrivals c.execute.result)).inside

pub returns-clause-counted : goal.returns-clause-counted
returns-clause-counted g c =
    (is_write _ _ {store = g.S.Store} {old = c.args.tx.now} {new = c.execute.new.self} c.execute.ensures.same_reference c.execute.ensures.survives c.requires.inside (rw c.arrivals_params.ensures at c.execute.ensures.runs) (counts_arrivals c.args.arrivals c.execute.result)).written
