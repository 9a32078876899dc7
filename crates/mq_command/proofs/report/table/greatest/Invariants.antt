use Rattle.mq_command.proofs.Words.{drop, ◌≡◌}
use Rattle.mq_command.specs.Top.{greatest}
use Rattle.mq_command.proofs.report.table.greatest.Given as goal

-- with what is left it is the greatest
abbrev pub invariant-loop-row : goal.invariant-loop-row
invariant-loop-row l = greatest l.most (drop l.row-index l.rows) ≡ greatest 0 l.rows
