use Rattle.mq_command.proofs.AnswerSteps.{to_order, order_answered}
use Rattle.mq_command.proofs.order.order.Goals as goal

pub verdict-requires : goal.verdict-requires
verdict-requires g c = to_order _ _ c.requires c.in-Ok.ensures.asks.answers

pub returns-in-Ok : goal.returns-in-Ok
returns-in-Ok g c = order_answered _ _ _ _ _ c.in-Ok.ensures.asks c.verdict.ensures
