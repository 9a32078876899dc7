use Rattle.mq_tables.proofs.Chain.{is_write}
use Rattle.mq_tables.proofs.Writes.{updates_trans}
use Rattle.mq_tables.proofs.transaction.update_transaction.Goals as goal

pub returns : goal.returns
returns g c =
    is_write _ _ c.execute.ensures.same_reference c.execute.ensures.survives c.requires.inside (rw c.standing_params.ensures at c.execute.ensures.runs) (updates_trans c.args.transaction.now c.execute.result)
