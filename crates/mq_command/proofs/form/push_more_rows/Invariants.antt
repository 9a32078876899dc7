use Rattle.mq_command.proofs.Words.{flat_map, next_row, take, ◌++◌, ◌≡◌}
use Rattle.mq_command.proofs.form.push_more_rows.Given as goal

-- the rows so far are appended
abbrev pub invariant-loop-row : goal.invariant-loop-row
invariant-loop-row l = l.text.items ≡ l.initial.text.items ++ flat_map next_row (take l.row-index l.rows)
