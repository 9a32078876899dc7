use Rattle.mq_command.proofs.Words.{string_bytes}
use Rattle.mq_command.proofs.AllowSteps.{line_told}
use Rattle.mq_command.proofs.probe.run_probe.Goals as goal

pub returns-in-Ok-clause-probes : goal.returns-in-Ok-clause-probes
returns-in-Ok-clause-probes g c =
    (c.in-Ok.ensures, line_told (λ line. string_bytes line) c.answers_line.result _ _ _ _ c.answers_line.ensures c.tell_line.ensures.prints)
