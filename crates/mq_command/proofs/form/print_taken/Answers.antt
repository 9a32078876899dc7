use Rattle.std.proofs.Common.{Global, Vec}
use Rattle.mq_command.proofs.Words.{ℕ}
use Rattle.mq_command.specs.Forms.{json_taken}
use Rattle.mq_command.proofs.AllowSteps.{line_told}
use Rattle.mq_command.proofs.form.print_taken.Goals as goal

pub returns-clause-prints : goal.returns-clause-prints
returns-clause-prints g c =
    line_told (λ (text : Vec ℕ Global). text.items) c.taken_text.result (json_taken c.args.server.now c.args.host.now c.args.taken) _ _ _ c.taken_text.ensures c.tell_bytes.ensures.prints
