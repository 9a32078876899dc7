use Rattle.mailquota.proofs.RefusalSteps.{retire_ends}
use Rattle.mailquota.proofs.StatusSteps.{process_done}
use Rattle.mailquota.proofs.asking.end_retire.Goals as goal

pub returns-clause-refuses : goal.returns-clause-refuses
returns-clause-refuses g c = retire_ends c.args.given c.retire.result c.end_process.result c.end_process.ensures c.retire.ensures.refuses

pub returns-clause-done : goal.returns-clause-done
returns-clause-done g c = process_done _ c.retire.result c.end_process.result c.end_process.ensures c.retire.ensures.asks
