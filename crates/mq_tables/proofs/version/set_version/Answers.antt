use Rattle.mq_tables.proofs.Chain.{is_write}
use Rattle.mq_tables.proofs.settings.Sets.{sets_version}
use Rattle.mq_tables.proofs.version.set_version.Goals as goal

pub returns : goal.returns
returns g c =
    is_write _ _ c.execute.ensures.same_reference c.execute.ensures.survives c.requires.inside (rw c.version_params.ensures at c.execute.ensures.runs) (sets_version c.execute.result)
