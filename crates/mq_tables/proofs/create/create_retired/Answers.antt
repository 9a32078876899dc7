use Rattle.mq_tables.proofs.Chain.{ran}
use Rattle.mq_tables.proofs.making.Creating.{makes_retired}
use Rattle.mq_tables.proofs.making.Makes.{makes, was_open}
use Rattle.mq_tables.proofs.create.create_retired.Goals as goal

pub returns-clause-made : goal.returns-clause-made
returns-clause-made g c clean =
    makes makes_retired _ _ c.execute.result (ran c.execute.ensures.survives c.requires.inside c.execute.ensures.runs clean)

pub returns-clause-open : goal.returns-clause-open
returns-clause-open g c clean =
    was_open _ _ _ _ c.execute.result (ran c.execute.ensures.survives c.requires.inside c.execute.ensures.runs clean)
