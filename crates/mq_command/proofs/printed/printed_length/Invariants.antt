use Rattle.mq_command.proofs.Words.{All, List, length, ℕ, ◌+◌, ◌<◌, ◌≡◌, ◌≤◌}
use Rattle.mq_command.proofs.PrintedSteps.{Begins}
use Rattle.mq_command.proofs.printed.printed_length.Given as goal

-- so many bytes are printed before the rest
abbrev pub invariant-loop-byte : goal.invariant-loop-byte
invariant-loop-byte l =
    ((bytes : List ℕ) × All (λ byte. byte < 256) bytes × Begins l.text bytes l.rest × (length bytes ≡ l.count))
    × (l.count + length l.rest ≤ length l.text)

abbrev pub decreases-loop-byte : goal.decreases-loop-byte
decreases-loop-byte l = length l.rest
