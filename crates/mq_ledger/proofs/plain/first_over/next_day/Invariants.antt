use Rattle.mq_ledger.proofs.Words.{IfSome, IsDay, day_of, days_from, least, take, ◌≡◌}
use Rattle.mq_ledger.proofs.plain.first_over.next_day.Given as goal

abbrev pub invariant-loop-entry : goal.invariant-loop-entry
invariant-loop-entry l = record {
  so_far : l.found ≡ least (days_from (day_of l.zone) (take l.entry-index l.entries) l.login l.from);
  in_range : IfSome l.found IsDay;
}
