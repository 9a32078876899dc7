use Rattle.mq_command.proofs.Words.{take, vis, ◌≡◌}
use Rattle.mq_command.proofs.note.vis.Given as goal

-- the bytes so far are appended as they are reported
abbrev pub invariant-loop-byte : goal.invariant-loop-byte
invariant-loop-byte l = l.shown.items ≡ vis (take l.byte-index l.login)
