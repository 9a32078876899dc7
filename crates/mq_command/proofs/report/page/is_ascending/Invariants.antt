use Rattle.mq_command.proofs.Words.{IsAscendingAbove, drop}
use Rattle.mq_command.proofs.report.page.is_ascending.Given as goal

-- what is left decides it
abbrev pub invariant-loop-row : goal.invariant-loop-row
invariant-loop-row l = (IsAscendingAbove l.last (drop l.row-index l.rows) → IsAscendingAbove l.after l.rows) × (IsAscendingAbove l.after l.rows → IsAscendingAbove l.last (drop l.row-index l.rows))
