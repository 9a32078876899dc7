use Rattle.mq_tables.proofs.Chain.{is_write}
use Rattle.mq_tables.proofs.answers.Clears.{clears_reply}
use Rattle.mq_tables.proofs.retiring.clear_reply.Goals as goal

pub returns-clause-inside : goal.returns-clause-inside
returns-clause-inside g c =
    (is_write _ _ {store = g.S.Store} {old = c.args.tx.now} {new = c.execute.new.self} c.execute.ensures.same_reference c.execute.ensures.survives c.requires.inside (rw c.clear_params.ensures at c.execute.ensures.runs) (clears_reply c.args.n c.execute.result)).inside

pub returns-clause-cleared : goal.returns-clause-cleared
returns-clause-cleared g c =
    (is_write _ _ {store = g.S.Store} {old = c.args.tx.now} {new = c.execute.new.self} c.execute.ensures.same_reference c.execute.ensures.survives c.requires.inside (rw c.clear_params.ensures at c.execute.ensures.runs) (clears_reply c.args.n c.execute.result)).written
