use Rattle.mailquota.proofs.RefusalSteps.{order_ends}
use Rattle.mailquota.proofs.StatusSteps.{process_done}
use Rattle.mailquota.proofs.asking.end_resume.Goals as goal

pub returns-clause-refuses : goal.returns-clause-refuses
returns-clause-refuses g c = order_ends c.args.given.host.now c.args.given.login c.args.given.servers c.resume.result c.end_process.result c.end_process.ensures c.resume.ensures.refuses

pub returns-clause-done : goal.returns-clause-done
returns-clause-done g c = process_done _ c.resume.result c.end_process.result c.end_process.ensures c.resume.ensures.asks
