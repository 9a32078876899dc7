use Rattle.mq_command.proofs.Words.{string_bytes}
use Rattle.mq_command.specs.Shares.{sum_line}
use Rattle.mq_command.proofs.AllowSteps.{line_told}
use Rattle.mq_command.proofs.outcome.print_sum.Goals as goal

pub returns-clause-prints : goal.returns-clause-prints
returns-clause-prints g c =
    line_told (λ line. string_bytes line) c.sum_text.result (sum_line c.args.sum c.args.after) _ _ _ c.sum_text.ensures c.tell_line.ensures.prints
