use Rattle.mq_command.proofs.Words.{IsUnanswered}
use Rattle.mq_command.proofs.ask.ask.Given as goal

-- the request was sent in each turn so far, and nothing that came answers it
abbrev pub invariant-loop-attempt : goal.invariant-loop-attempt
invariant-loop-attempt g l = IsUnanswered l.request l._attempt l.none_taken (g.L.Link.told l.initial.link) (g.L.Link.told l.link)
