use Rattle.mq_command.proofs.Words.{flat_map, names, rows_of, take, ◌≡◌}
use Rattle.mq_command.proofs.totals.login.all_logins.Given as goal

-- the logins of the parts so far are appended
abbrev pub invariant-loop-part : goal.invariant-loop-part
invariant-loop-part l = l.logins.items ≡ names (flat_map rows_of (take l.part-index l.parts))
