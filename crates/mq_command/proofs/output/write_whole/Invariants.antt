use Rattle.mq_command.proofs.Words.{Appends, List, length, ℕ, ◌++◌, ◌≡◌}
use Rattle.mq_command.proofs.output.write_whole.Given as goal

-- the bytes done are written
abbrev pub invariant-loop-rest : goal.invariant-loop-rest
invariant-loop-rest g l = (done : List ℕ) × (l.bytes ≡ done ++ l.rest) × Appends (g.W.Write.contents l.initial.output) (g.W.Write.contents l.output) done

abbrev pub decreases-loop-rest : goal.decreases-loop-rest
decreases-loop-rest g l = length l.rest
