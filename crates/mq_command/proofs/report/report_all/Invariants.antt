use Rattle.mq_command.proofs.Words.{Appends, List, UsageRow, report_lines}
use Rattle.mq_command.proofs.PageSteps.{AreHeld}
use Rattle.mq_command.proofs.report.report_all.Given as goal

-- the pages so far were full, accepted and printed
abbrev pub invariant-loop-page : goal.invariant-loop-page
invariant-loop-page g l =
    (rows : List UsageRow) × AreHeld l.day (g.L.Link.told l.initial.link) (g.L.Link.told l.link) l._page l.after rows
    × Appends (g.W.Write.contents l.initial.output) (g.W.Write.contents l.output) (report_lines rows)
