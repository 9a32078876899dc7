use Rattle.std.proofs.Common.{Global, Vec}
use Rattle.mq_command.proofs.Words.{ℕ}
use Rattle.mq_command.specs.Forms.{json_status}
use Rattle.mq_command.proofs.AllowSteps.{line_told}
use Rattle.mq_command.proofs.form.print_status.Goals as goal

pub returns-clause-prints : goal.returns-clause-prints
returns-clause-prints g c =
    line_told (λ (text : Vec ℕ Global). text.items) c.status_text.result (json_status c.args.server.now c.args.answers) _ _ _ c.status_text.ensures c.tell_bytes.ensures.prints
