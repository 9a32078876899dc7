use Rattle.mailquota.proofs.RefusalSteps.{replay_ends}
use Rattle.mailquota.proofs.ledgers.end_replay.Goals as goal

pub returns : goal.returns
returns g c = replay_ends c.args.given c.replay.result c.end_program.result c.end_program.ensures c.replay.ensures
