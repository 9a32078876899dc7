use Rattle.mq_tables.proofs.Chain.{is_write}
use Rattle.mq_tables.proofs.Writes.{inserts_limit}
use Rattle.mq_tables.proofs.ceiling.insert_limit.Goals as goal

pub returns : goal.returns
returns g c =
    is_write _ _ c.execute.ensures.same_reference c.execute.ensures.survives c.requires.inside (rw c.limit_params.ensures at c.execute.ensures.runs) (inserts_limit c.args.limit.now c.execute.result)
