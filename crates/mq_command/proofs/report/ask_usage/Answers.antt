use Rattle.mq_command.proofs.AnswerSteps.{to_usage}
use Rattle.mq_command.proofs.report.ask_usage.Goals as goal

pub row_of-requires-clause-answers : goal.row_of-requires-clause-answers
row_of-requires-clause-answers g c = to_usage _ _ _ c.in-Ok.ensures.asks.answers
