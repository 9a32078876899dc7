use Rattle.mq_command.proofs.Words.{take, totals, ◌≡◌}
use Rattle.mq_command.proofs.totals.sum.totals.Given as goal

-- a row for each login so far
abbrev pub invariant-loop-place : goal.invariant-loop-place
invariant-loop-place l = l.rows.items ≡ totals l.parts 0 (take l.place l.logins)
