use Rattle.mq_command.proofs.PageSteps.{AreHeld}
use Rattle.mq_command.proofs.report.all_rows.Given as goal

-- the pages so far were full and accepted, and their rows are held
abbrev pub invariant-loop-page : goal.invariant-loop-page
invariant-loop-page g l = AreHeld l.day (g.L.Link.told l.initial.link) (g.L.Link.told l.link) l._page l.after l.all.items
