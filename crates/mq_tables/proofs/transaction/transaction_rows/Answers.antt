use Rattle.mq_tables.specs.Lent.{transaction_key}
use Rattle.mq_tables.proofs.ByKey.{transaction_select, transaction_found}
use Rattle.mq_tables.proofs.Selected.{is_read}
use Rattle.mq_tables.proofs.transaction.transaction_rows.Goals as goal

pub returns : goal.returns
returns g c =
    is_read transaction_select (transaction_key c.args.host.now c.args.run c.args.txn) c.query_all.result c.query_all.ensures.same_reference (rw c.key_params.ensures at c.query_all.ensures.ok) (rw c.key_params.ensures at c.query_all.ensures.err) c.query_all.ensures.survives (transaction_found c.args.host.now c.args.run c.args.txn)
