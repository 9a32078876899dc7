use Rattle.mq_command.proofs.Words.{AreHeld, IsAmount, LAST_DAY, ◌<◌}
use Rattle.mq_command.proofs.hold.hold_later.Given as goal

-- so many later days were dealt with, and there are more
abbrev pub invariant-loop-place : goal.invariant-loop-place
invariant-loop-place g l =
    (l.later.last < LAST_DAY) × IsAmount l.later.most
    × AreHeld l.setter l.day (g.L.Link.told l.initial.link) l.place l.later (g.L.Link.told l.link)
