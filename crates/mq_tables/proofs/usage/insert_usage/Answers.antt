use Rattle.mq_tables.proofs.Chain.{is_write}
use Rattle.mq_tables.proofs.Writes.{inserts_usage}
use Rattle.mq_tables.proofs.usage.insert_usage.Goals as goal

pub returns : goal.returns
returns g c =
    is_write _ _ c.execute.ensures.same_reference c.execute.ensures.survives c.requires.inside (rw c.usage_params.ensures at c.execute.ensures.runs) (inserts_usage c.args.usage.now c.execute.result)
