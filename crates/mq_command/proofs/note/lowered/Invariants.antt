use Rattle.mq_command.proofs.Words.{lower, map, take, ◌≡◌}
use Rattle.mq_command.proofs.note.lowered.Given as goal

-- the bytes so far are appended in lower case
abbrev pub invariant-loop-byte : goal.invariant-loop-byte
invariant-loop-byte l = l.shown.items ≡ map lower (take l.byte-index l.login)
