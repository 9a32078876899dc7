use Rattle.std.proofs.Common.{ℕ, map, true}
use Rattle.mq_process.specs.Refusals.{HasNoAddress}
use Rattle.mq_remote.specs.Stops.{StopsIn, StopsRest}
use Rattle.mq_remote.proofs.subcommands.stopping.stop_rest.Given as goal

-- what further rounds of those that are left lead to is what all rounds lead to
abbrev pub invariant-loop-round : goal.invariant-loop-round
invariant-loop-round g l =
    (HasNoAddress (map (λ s. s.now) l.round.left.items) → ⊥)
    × ((status : ℕ)
    → StopsRest (StopsIn g.D.Dial.leads g.D.Link.Link.told l.task.setter.now l.task.order l.task.is_alone true) status (map (λ s. s.now) l.round.left.items) l.round.status
    → StopsRest (StopsIn g.D.Dial.leads g.D.Link.Link.told l.task.setter.now l.task.order l.task.is_alone true) status (map (λ s. s.now) l.fn.first.left.items) l.fn.first.status)
