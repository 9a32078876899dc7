use Rattle.mq_tables.specs.Retiring.{open_params}
use Rattle.mq_tables.proofs.Selected.{is_read}
use Rattle.mq_tables.proofs.transactions.Open.{open_select, found_all}
use Rattle.mq_tables.proofs.retiring.open_rows.Goals as goal

pub returns : goal.returns
returns g c =
    is_read open_select (open_params c.args.runs.now) c.query_all.result c.query_all.ensures.same_reference (rw c.open_params.ensures at c.query_all.ensures.ok) (rw c.open_params.ensures at c.query_all.ensures.err) c.query_all.ensures.survives (found_all c.args.runs.now)
