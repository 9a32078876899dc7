use Rattle.mq_command.proofs.Words.{AreNotLower, ◌+◌}
use Rattle.mq_command.proofs.lower.find_lower.Given as goal

-- so many days were looked at, and the limit of none is lower
abbrev pub invariant-loop-count : goal.invariant-loop-count
invariant-loop-count g l =
    AreNotLower l.login (l.day + 2) l.least (g.L.Link.told l.initial.link) l.count (g.L.Link.told l.link)
