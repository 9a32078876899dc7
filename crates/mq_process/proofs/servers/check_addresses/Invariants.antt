use Rattle.std.proofs.Common.{drop, map}
use Rattle.mq_process.specs.Refusals.{HasNoAddress}
use Rattle.mq_process.proofs.servers.check_addresses.Given as goal

-- what is left decides it
abbrev pub invariant-loop-server : goal.invariant-loop-server
invariant-loop-server g l =
    (HasNoAddress (map (λ s. s.now) (drop l.server-index l.servers)) → HasNoAddress (map (λ s. s.now) l.servers))
    × (HasNoAddress (map (λ s. s.now) l.servers) → HasNoAddress (map (λ s. s.now) (drop l.server-index l.servers)))
