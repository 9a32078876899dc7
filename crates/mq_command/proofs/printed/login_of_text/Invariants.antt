use Rattle.mq_command.proofs.Words.{length}
use Rattle.mq_command.proofs.PrintedSteps.{Begins}
use Rattle.mq_command.proofs.printed.login_of_text.Given as goal

-- the bytes so far are printed as what stands before the rest
abbrev pub invariant-loop-byte : goal.invariant-loop-byte
invariant-loop-byte l = Begins l.text l.bytes.items l.rest

abbrev pub decreases-loop-byte : goal.decreases-loop-byte
decreases-loop-byte l = length l.rest
