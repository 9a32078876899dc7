use Rattle.mq_command.proofs.Words.{report_lines, take, ◌++◌, ◌≡◌}
use Rattle.mq_command.proofs.form.push_lines.Given as goal

-- the lines so far are appended
abbrev pub invariant-loop-row : goal.invariant-loop-row
invariant-loop-row l = l.text.items ≡ l.initial.text.items ++ report_lines (take l.row-index l.rows)
