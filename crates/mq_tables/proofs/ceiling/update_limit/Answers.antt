use Rattle.mq_tables.proofs.Chain.{is_write}
use Rattle.mq_tables.proofs.Writes.{updates_limit}
use Rattle.mq_tables.proofs.ceiling.update_limit.Goals as goal

pub returns : goal.returns
returns g c =
    is_write _ _ c.execute.ensures.same_reference c.execute.ensures.survives c.requires.inside (rw c.cap_params.ensures at c.execute.ensures.runs) (updates_limit c.args.limit.now c.execute.result)
