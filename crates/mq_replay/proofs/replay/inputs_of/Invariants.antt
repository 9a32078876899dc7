use Rattle.std.proofs.Common.{◌≡◌, map, take}
use Rattle.mq_replay.proofs.replay.inputs_of.Given as goal

-- an input for each connection so far
abbrev pub invariant-loop-connection : goal.invariant-loop-connection
invariant-loop-connection l = map (λ s. s.inner.now) l.inputs.items ≡ map (λ d. d.items) (take l.connection-index l.connections)
