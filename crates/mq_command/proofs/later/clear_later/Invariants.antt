use Rattle.mq_command.proofs.Words.{AreCleared, ◌+◌}
use Rattle.mq_command.proofs.later.clear_later.Given as goal

-- so many days were looked at, and no limit stays above what the login may have
abbrev pub invariant-loop-count : goal.invariant-loop-count
invariant-loop-count g l =
    AreCleared l.setter l.is_all (l.day + 2) l.later (g.L.Link.told l.initial.link) l.count (g.L.Link.told l.link)
