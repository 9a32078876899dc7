use Rattle.mq_command.proofs.Words.{Appends, report_lines, take}
use Rattle.mq_command.proofs.report.row.write_rows.Given as goal

-- the lines so far are written
abbrev pub invariant-loop-row : goal.invariant-loop-row
invariant-loop-row g l = Appends (g.W.Write.contents l.initial.output) (g.W.Write.contents l.output) (report_lines (take l.row-index l.rows))
