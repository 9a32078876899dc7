use Rattle.mq_ledger.proofs.Words.{day_of, used, ℕ, ◌-◌, ◌<◌, ◌≤◌}
use Rattle.mq_ledger.proofs.plain.first_over.over.Given as goal

abbrev pub invariant-days : goal.invariant-days
invariant-days l = record {
  goes_on : l.from ≤ l.start;
  none_before : (d : ℕ) → l.from ≤ d → d < l.start → used (day_of l.zone) l.entries l.login d ≤ l.cap;
}

abbrev pub decreases-days : goal.decreases-days
decreases-days l = 376201 - l.start
