use Rattle.mq_command.proofs.AnswerSteps.{row_printed}
use Rattle.mq_command.proofs.report.report_one.Goals as goal

pub returns : goal.returns
returns g c = row_printed _ _ _ _ _ _ _ _ c.in_ok-row.ensures.usage c.print_row.ensures
