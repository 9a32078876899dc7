use Rattle.mq_command.proofs.Words.{flat_map, string_bytes, take, ◌++◌, ◌≡◌}
use Rattle.mq_command.specs.Report.{row_line_in}
use Rattle.mq_command.specs.Top.{heading}
use Rattle.mq_command.proofs.report.table.table_text.Given as goal

-- the lines so far are appended
abbrev pub invariant-loop-row : goal.invariant-loop-row
invariant-loop-row l = string_bytes l.text ≡ heading l.places ++ flat_map (row_line_in l.places) (take l.row-index l.rows)
