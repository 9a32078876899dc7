use Rattle.mq_command.proofs.Words.{AreRefused, room, ◌≡◌, ◌≤◌}
use Rattle.mq_command.proofs.allow.set_above.Given as goal

-- so many limits were refused, and the room has grown with each
abbrev pub invariant-loop-refused : goal.invariant-loop-refused
invariant-loop-refused g l =
    (l.room ≡ room l.refused) × (l.room ≤ 1000000)
    × AreRefused l.setter l.day l.most l.more l.initial.used (g.L.Link.told l.initial.link) l.refused l.used (g.L.Link.told l.link)
