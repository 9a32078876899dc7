use Rattle.mq_store.proofs.Words.{day_of}
use Rattle.mq_store.proofs.Renewals.{carried_more, carried_over}
use Rattle.mq_store.proofs.laws.arrivals_leave_what_was_taken_over.Goals as goal

pub returns-clause-entries : goal.returns-clause-entries
returns-clause-entries c = carried_more

pub returns-clause-arrivals : goal.returns-clause-arrivals
returns-clause-arrivals c = λ zone default D H came at new scratch legal has.
    carried_over zone default D (c.one_more_arrival.ensures.arrived (day_of zone) default) H came at new scratch (c.one_more_arrival.ensures.again (day_of zone) default H legal) has
