use Rattle.mq_ledger.proofs.Words.{day_of, logins_above, option_copied, slice_get, take, ◌≡◌}
use Rattle.mq_ledger.proofs.plain.listing.next_login.Given as goal

abbrev pub invariant-loop-entry : goal.invariant-loop-entry
invariant-loop-entry l = option_copied l.found ≡ slice_get (logins_above (day_of l.zone) (take l.entry-index l.entries) l.day l.after) 0
