use Rattle.std.proofs.Common.{[], ℕ, List, drop, map}
use Rattle.mq_process.specs.Refusals.{HasNoAddress}
use Rattle.mq_remote.specs.Stops.{StopsEach, StopsIn}
use Rattle.mq_remote.proofs.subcommands.stopping.stop_each.Given as goal

-- what asking the others leads to is what asking all leads to, and those that gave no answer are addresses
abbrev pub invariant-loop-server : goal.invariant-loop-server
invariant-loop-server g l =
    (HasNoAddress (map (λ s. s.now) (drop l.server-index l.servers)) → ⊥)
    × (HasNoAddress (map (λ s. s.now) l.round.left.items) → ⊥)
    × ((status : ℕ) (left : List (List ℕ))
    → StopsEach (StopsIn g.D.Dial.leads g.D.Link.Link.told l.task.setter.now l.task.order l.task.is_alone l.is_later) status left
    (map (λ s. s.now) (drop l.server-index l.servers)) l.round.status (map (λ s. s.now) l.round.left.items)
    → StopsEach (StopsIn g.D.Dial.leads g.D.Link.Link.told l.task.setter.now l.task.order l.task.is_alone l.is_later) status left
    (map (λ s. s.now) l.servers) l.so_far [])
