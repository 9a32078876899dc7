use Rattle.mq_tables.proofs.Chain.{is_write}
use Rattle.mq_tables.proofs.answers.Appending.{appends}
use Rattle.mq_tables.proofs.answer.append_answer.Goals as goal

pub returns-clause-inside : goal.returns-clause-inside
returns-clause-inside g c =
    (is_write _ _ {store = g.S.Store} {old = c.args.tx.now} {new = c.execute.new.self} c.execute.ensures.same_reference c.execute.ensures.survives c.requires.inside (rw c.answer_params.ensures at c.execute.ensures.runs) (appends c.args.answer.now c.execute.result)).inside

pub returns-clause-appended : goal.returns-clause-appended
returns-clause-appended g c =
    (is_write _ _ {store = g.S.Store} {old = c.args.tx.now} {new = c.execute.new.self} c.execute.ensures.same_reference c.execute.ensures.survives c.requires.inside (rw c.answer_params.ensures at c.execute.ensures.runs) (appends c.args.answer.now c.execute.result)).written
