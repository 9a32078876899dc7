use Rattle.std.proofs.Common.{None, Some, ◌∙◌}
use Rattle.mq_store.proofs.Words.{day_of, transaction}
use Rattle.mq_store.proofs.recall.day_named.Goals as goal

pub returns-in-Some-clause-named : goal.returns-in-Some-clause-named
returns-in-Some-clause-named g c clean = λ default H b.
    c.transactions_have_days.ensures (day_of c.args.zone) H b.has.tables.transactions (transaction c.args.id.now c.args.txn) c.args.moment (Some c.in-Some.row) b.has.rows.transactions
    (rw c.in-Some.is at (c.in_ok-row.ensures.found clean b.has.tables b.has.holds))

pub returns-in-None-clause-named : goal.returns-in-None-clause-named
returns-in-None-clause-named g c clean = λ default H b.
    c.day_at.ensures.value ∙ c.transactions_have_days.ensures (day_of c.args.zone) H b.has.tables.transactions (transaction c.args.id.now c.args.txn) c.args.moment None b.has.rows.transactions
    (rw c.in-None.is at (c.in_ok-row.ensures.found clean b.has.tables b.has.holds))
