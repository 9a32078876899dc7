use Rattle.mq_tables.specs.TransactionDays.{day_params}
use Rattle.mq_tables.proofs.Selected.{is_read}
use Rattle.mq_tables.proofs.transactions.Ends.{newest_select, found_newest}
use Rattle.mq_tables.proofs.transaction_days.newest_rows.Goals as goal

pub returns : goal.returns
returns g c =
    is_read newest_select (day_params c.args.until) c.query_all.result c.query_all.ensures.same_reference (rw c.day_params.ensures at c.query_all.ensures.ok) (rw c.day_params.ensures at c.query_all.ensures.err) c.query_all.ensures.survives (found_newest c.args.until)
