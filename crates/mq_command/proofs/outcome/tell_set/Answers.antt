use Rattle.mq_command.proofs.Words.{string_bytes}
use Rattle.mq_command.proofs.AllowSteps.{line_told}
use Rattle.mq_command.proofs.outcome.tell_set.Goals as goal

pub returns-in-Ok-clause-prints : goal.returns-in-Ok-clause-prints
returns-in-Ok-clause-prints g c =
    rw c.in-Ok.is (c.tell_line.result, c.printed_end.ensures, line_told (λ line. string_bytes line) c.set_text-line.result _ _ _ _ c.set_text-line.ensures c.tell_line.ensures.prints)
