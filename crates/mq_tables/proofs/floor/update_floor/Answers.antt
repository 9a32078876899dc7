use Rattle.mq_tables.proofs.Chain.{is_write}
use Rattle.mq_tables.proofs.Writes.{updates_floor}
use Rattle.mq_tables.proofs.floor.update_floor.Goals as goal

pub returns : goal.returns
returns g c =
    is_write _ _ c.execute.ensures.same_reference c.execute.ensures.survives c.requires.inside (rw c.floor_params.ensures at c.execute.ensures.runs) (updates_floor c.args.floor.now c.execute.result)
