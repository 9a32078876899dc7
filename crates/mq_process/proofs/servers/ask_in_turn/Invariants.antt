use Rattle.std.proofs.Common.{ℕ, length, drop, map, ◌==◌}
use Rattle.mq_process.specs.Refusals.{HasNoAddress}
use Rattle.mq_process.specs.Servers.{AsksEach}
use Rattle.mq_process.proofs.servers.ask_in_turn.Given as goal

-- what asking those that are left leads to is what asking all leads to
abbrev pub invariant-loop-server : goal.invariant-loop-server
invariant-loop-server g l =
    goal.F-IsAlwaysCallable g l.ask
    × (HasNoAddress (map (λ s. s.now) (drop l.server-index l.servers)) → ⊥)
    × ((last : _) (status : ℕ)
    → AsksEach (λ f address said h. (old new : _) × goal.F-step g f address old said new h) l.is_bare last status l.ask (map (λ s. s.now) (drop l.server-index l.servers)) l.status
    → AsksEach (λ f address said h. (old new : _) × goal.F-step g f address old said new h) l.is_bare last status l.fn.ask (map (λ s. s.now) l.servers) 0)
