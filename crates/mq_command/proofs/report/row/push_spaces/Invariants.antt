use Rattle.mq_command.proofs.Words.{replicate, string_bytes, ◌++◌, ◌≡◌}
use Rattle.mq_command.proofs.report.row.push_spaces.Given as goal

-- the spaces so far are pushed
abbrev pub invariant-loop-space : goal.invariant-loop-space
invariant-loop-space l = string_bytes l.line ≡ string_bytes l.initial.line ++ replicate l._space 32
