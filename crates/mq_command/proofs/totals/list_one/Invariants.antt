use Rattle.mq_command.proofs.Words.{List, Option, Some, UsageRow, [], replicate, ◌≡◌}
use Rattle.mq_command.proofs.totals.list_one.Given as goal

-- so many servers so far
abbrev pub invariant-loop-server : goal.invariant-loop-server
invariant-loop-server l = let none : Option (List UsageRow) = Some [] in l.parts.items ≡ replicate l._server none
