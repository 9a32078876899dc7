use Rattle.std.proofs.Common.{◌≡◌, [], map, take}
use Rattle.mq_replay.proofs.replay.outputs_for.Given as goal

-- an empty output for each connection so far
abbrev pub invariant-loop-connection : goal.invariant-loop-connection
invariant-loop-connection l = map (λ s. s.inner.items) l.outputs.items ≡ map (λ _. []) (take l._connection-index l.connections)
