use Rattle.std.proofs.Common.{take}
use Rattle.mq_ledger.proofs.LimitFacts.{IsNewest}
use Rattle.mq_ledger.proofs.plain.cap.cap.Given as goal

abbrev pub invariant-loop-entry : goal.invariant-loop-entry
invariant-loop-entry l = IsNewest l.default (take l.entry-index l.entries) l.login l.day l.cap l.latest
