use Rattle.mq_command.proofs.Words.{AreTaken, IsLimit, LAST_RUN, ahead, later, ◌≡◌, ◌≤◌}
use Rattle.mq_command.proofs.order.order_fresh.Given as goal

-- the limit is under the number of the run that many later, and those before it are taken
abbrev pub invariant-loop-taken : goal.invariant-loop-taken
invariant-loop-taken g l =
    IsLimit l.request × (l.ahead ≤ LAST_RUN) × (l.ahead ≡ ahead l._taken) × (l.request ≡ later l.ahead l.initial.request)
    × AreTaken l.initial.request (g.L.Link.told l.initial.link) l._taken (g.L.Link.told l.link)
