use Rattle.mailquota.proofs.RefusalSteps.{report_ends}
use Rattle.mailquota.proofs.StatusSteps.{process_done}
use Rattle.mailquota.proofs.asking.end_report.Goals as goal

pub returns-clause-refuses : goal.returns-clause-refuses
returns-clause-refuses g c = report_ends c.args.given c.report.result c.end_process.result c.end_process.ensures c.report.ensures.refuses

pub returns-clause-done : goal.returns-clause-done
returns-clause-done g c = process_done _ c.report.result c.end_process.result c.end_process.ensures c.report.ensures.asks
