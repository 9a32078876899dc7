use Rattle.mq_command.proofs.Words.{AreOthers}
use Rattle.mq_command.proofs.look_back.look_back.Given as goal

-- so many days were asked for, and none is sought
abbrev pub invariant-loop-count : goal.invariant-loop-count
invariant-loop-count g l =
    AreOthers l.sought l.login l.day (g.L.Link.told l.initial.link) l.count (g.L.Link.told l.link)
