use Rattle.mq_tables.proofs.Chain.{is_write}
use Rattle.mq_tables.proofs.Writes.{updates_usage}
use Rattle.mq_tables.proofs.usage.update_usage.Goals as goal

pub returns : goal.returns
returns g c =
    is_write _ _ c.execute.ensures.same_reference c.execute.ensures.survives c.requires.inside (rw c.totals_params.ensures at c.execute.ensures.runs) (updates_usage c.args.usage.now c.execute.result)
