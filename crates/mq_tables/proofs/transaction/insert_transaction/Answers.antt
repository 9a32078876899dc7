use Rattle.mq_tables.proofs.Chain.{is_write}
use Rattle.mq_tables.proofs.Writes.{inserts_trans}
use Rattle.mq_tables.proofs.transaction.insert_transaction.Goals as goal

pub returns : goal.returns
returns g c =
    is_write _ _ c.execute.ensures.same_reference c.execute.ensures.survives c.requires.inside (rw c.transaction_params.ensures at c.execute.ensures.runs) (inserts_trans c.args.transaction.now c.execute.result)
