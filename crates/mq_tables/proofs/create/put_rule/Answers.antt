use Rattle.mq_tables.proofs.Chain.{ran}
use Rattle.mq_tables.proofs.settings.FirstRows.{puts_rule}
use Rattle.mq_tables.proofs.create.put_rule.Goals as goal

pub returns-clause-put : goal.returns-clause-put
returns-clause-put g c clean =
    puts_rule c.args.rule.now _ _ c.execute.result (ran c.execute.ensures.survives c.requires.inside (rw c.rule_params.ensures at c.execute.ensures.runs) clean)
