use Rattle.mq_command.proofs.AnswerSteps.{to_list, page_taken}
use Rattle.mq_command.proofs.report.ask_page.Goals as goal

pub rows_of-requires-clause-answers : goal.rows_of-requires-clause-answers
rows_of-requires-clause-answers g c = to_list c.args.day c.args.after.now _ c.in-Ok.ensures.asks.answers

pub returns-in-Ok-clause-page : goal.returns-in-Ok-clause-page
returns-in-Ok-clause-page g c = page_taken _ _ _ _ _ _ _ c.in_ok-clone.ensures.cases c.in-Ok.ensures.asks c.rows_of.ensures.page
