use Rattle.mailquota.proofs.RefusalSteps.{order_ends}
use Rattle.mailquota.proofs.StatusSteps.{process_done}
use Rattle.mailquota.proofs.asking.end_stop.Goals as goal

pub returns-clause-refuses : goal.returns-clause-refuses
returns-clause-refuses g c = order_ends c.args.given.host.now c.args.given.login c.args.given.servers c.stop.result c.end_process.result c.end_process.ensures c.stop.ensures.refuses

pub returns-clause-done : goal.returns-clause-done
returns-clause-done g c = process_done _ c.stop.result c.end_process.result c.end_process.ensures c.stop.ensures.asks
