use Rattle.mq_tables.specs.Lent.{key_params}
use Rattle.mq_tables.proofs.ByKey.{ceiling_select, limit_found}
use Rattle.mq_tables.proofs.Selected.{is_read}
use Rattle.mq_tables.proofs.ceiling.limit_rows.Goals as goal

pub returns : goal.returns
returns g c =
    is_read ceiling_select (key_params c.args.login.now c.args.day) c.query_all.result c.query_all.ensures.same_reference (rw c.key_params.ensures at c.query_all.ensures.ok) (rw c.key_params.ensures at c.query_all.ensures.err) c.query_all.ensures.survives (limit_found c.args.login.now c.args.day)
