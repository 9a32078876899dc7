use Rattle.mq_command.proofs.Words.{inr, refl, rules}
use Rattle.mq_command.proofs.later.clear_day.Goals as goal

pub returns-in-Ok-set_limit : goal.returns-in-Ok-set_limit
returns-in-Ok-set_limit g c = inr (_, _, (c.in-Ok.usage, c.in-Ok.ensures.asked, search rules, refl), search rules, c.in-Ok-set_limit.ensures)

pub returns-in-Err-set_limit : goal.returns-in-Err-set_limit
returns-in-Err-set_limit g c = inr (_, _, (c.in-Ok.usage, c.in-Ok.ensures.asked, search rules, refl), search rules, c.in-Err-set_limit.ensures)
