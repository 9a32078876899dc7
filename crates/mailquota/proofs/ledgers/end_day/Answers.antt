use Rattle.mailquota.proofs.StatusSteps.{day_done}
use Rattle.mailquota.proofs.ledgers.end_day.Goals as goal

pub returns : goal.returns
returns g c = day_done _ c.args.given c.args.is_on_terminal _ _ c.day.result c.end_process.result c.end_process.ensures c.day.ensures
