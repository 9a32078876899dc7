use Rattle.mq_command.proofs.Words.{names, take, ◌++◌, ◌≡◌}
use Rattle.mq_command.proofs.totals.login.push_logins.Given as goal

-- the logins so far are appended
abbrev pub invariant-loop-row : goal.invariant-loop-row
invariant-loop-row l = l.logins.items ≡ l.initial.logins.items ++ names (take l.row-index l.rows)
