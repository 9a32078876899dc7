use Rattle.std.proofs.Common.{◌≡◌, ◌+◌, drop}
use Rattle.mq_replay.specs.Replay.{faults_of, faults_from}
use Rattle.mq_replay.proofs.replay.first_fault.Given as goal

-- no fault so far
abbrev pub invariant-loop-index : goal.invariant-loop-index
invariant-loop-index l = faults_from (l.index + 1) (drop l.index l.ends) ≡ faults_of l.ends
