use Rattle.mailquota.proofs.RefusalSteps.{probe_ends}
use Rattle.mailquota.proofs.StatusSteps.{process_done}
use Rattle.mailquota.proofs.asking.end_probe.Goals as goal

pub returns-clause-refuses : goal.returns-clause-refuses
returns-clause-refuses g c = probe_ends c.args.given c.probe_servers.result c.end_process.result c.end_process.ensures c.probe_servers.ensures.refuses

pub returns-clause-done : goal.returns-clause-done
returns-clause-done g c = process_done _ c.probe_servers.result c.end_process.result c.end_process.ensures c.probe_servers.ensures.asks
