use Rattle.mq_remote.proofs.AskedSteps.{asked_or_not}
use Rattle.mq_remote.proofs.subcommands.probe.probe_at.Goals as goal

pub returns : goal.returns
returns g c = asked_or_not _ _ _ _ _ _ c.put_at.ensures.asks c.put_at.ensures.memory c.end_process.ensures
