use Rattle.mq_ledger.proofs.Words.{floor, requests, take, ◌≡◌}
use Rattle.mq_ledger.proofs.plain.entries.floor.Given as goal

-- the floor by the entries so far
abbrev pub invariant-loop-entry : goal.invariant-loop-entry
invariant-loop-entry l = l.run ≡ floor (requests (take l.entry-index l.entries)) l.host
