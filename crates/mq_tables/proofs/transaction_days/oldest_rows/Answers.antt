use Rattle.mq_tables.specs.TransactionDays.{day_params}
use Rattle.mq_tables.proofs.Selected.{is_read}
use Rattle.mq_tables.proofs.transactions.Ends.{oldest_select, found_oldest}
use Rattle.mq_tables.proofs.transaction_days.oldest_rows.Goals as goal

pub returns : goal.returns
returns g c =
    is_read oldest_select (day_params c.args.until) c.query_all.result c.query_all.ensures.same_reference (rw c.day_params.ensures at c.query_all.ensures.ok) (rw c.day_params.ensures at c.query_all.ensures.err) c.query_all.ensures.survives (found_oldest c.args.until)
