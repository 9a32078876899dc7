use Rattle.mq_command.proofs.Words.{inl, inr}
use Rattle.mq_command.proofs.allow.set_both.Goals as goal

pub returns-in-Err : goal.returns-in-Err
returns-in-Err g c = inl c.in-Err.ensures

pub returns-in-Err-set_limit : goal.returns-in-Err-set_limit
returns-in-Err-set_limit g c = inr (c.in-Ok.cap, _, c.in-Ok.ensures, c.in-Err-set_limit.ensures)
