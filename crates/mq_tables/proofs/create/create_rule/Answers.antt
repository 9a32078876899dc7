use Rattle.mq_tables.proofs.Chain.{ran}
use Rattle.mq_tables.proofs.making.Creating.{makes_rule}
use Rattle.mq_tables.proofs.making.Makes.{makes}
use Rattle.mq_tables.proofs.create.create_rule.Goals as goal

pub returns-clause-made : goal.returns-clause-made
returns-clause-made g c clean =
    makes makes_rule _ _ c.execute.result (ran c.execute.ensures.survives c.requires.inside c.execute.ensures.runs clean)
