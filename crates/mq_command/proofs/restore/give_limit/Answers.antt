use Rattle.mq_command.proofs.Words.{ap, min, ◌∙◌}
use Rattle.mq_command.proofs.AllowSteps.{limit_given}
use Rattle.mq_command.proofs.restore.give_limit.Goals as goal

pub returns-in-Ok : goal.returns-in-Ok
returns-in-Ok g c =
    limit_given _ _ _ _ c.in-Ok.usage _ _ _ _ c.in-Ok.ensures.asked (c.min-most.ensures ∙ ap (λ m. min m 1000000) c.max.ensures) c.set_both.ensures
