use Rattle.mq_tables.proofs.Selected.{is_read}
use Rattle.mq_tables.proofs.answers.Reads.{entry_select, key, entry_found}
use Rattle.mq_tables.proofs.entry.rows_at.Goals as goal

pub returns : goal.returns
returns g c =
    is_read entry_select (key c.args.n) c.query_all.result c.query_all.ensures.same_reference (rw c.place_params.ensures at c.query_all.ensures.ok) (rw c.place_params.ensures at c.query_all.ensures.err) c.query_all.ensures.survives (entry_found c.args.n)
