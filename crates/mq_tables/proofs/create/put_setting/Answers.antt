use Rattle.mq_tables.proofs.Chain.{ran}
use Rattle.mq_tables.proofs.settings.FirstRows.{puts_setting}
use Rattle.mq_tables.proofs.create.put_setting.Goals as goal

pub returns-clause-put : goal.returns-clause-put
returns-clause-put g c clean =
    puts_setting c.args.made_with.now _ _ c.execute.result (ran c.execute.ensures.survives c.requires.inside (rw c.setting_params.ensures at c.execute.ensures.runs) clean)
