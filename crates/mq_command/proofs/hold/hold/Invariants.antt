use Rattle.mq_command.proofs.Words.{AreRefusedAgain, ◌≤◌}
use Rattle.mq_command.proofs.hold.hold.Given as goal

-- so many limits were refused, and the room has grown with each
abbrev pub invariant-loop-refused : goal.invariant-loop-refused
invariant-loop-refused g l =
    (l.known.room ≤ 1000000)
    × AreRefusedAgain l.setter l.first l.day l.usage (g.L.Link.told l.initial.link) l.refused l.known (g.L.Link.told l.link)
