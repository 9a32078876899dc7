use Rattle.mq_command.proofs.Words.{Ok, string_bytes}
use Rattle.mq_command.proofs.AllowSteps.{line_told}
use Rattle.mq_command.proofs.probe.run_host_probe.Goals as goal

pub returns-in-Ok-clause-probes : goal.returns-in-Ok-clause-probes
returns-in-Ok-clause-probes g c =
    (Ok c.in-Ok.field-0, c.in-Ok.ensures, line_told (λ line. string_bytes line) c.taken_lines.result _ _ _ _ c.taken_lines.ensures c.tell_line.ensures.prints)
