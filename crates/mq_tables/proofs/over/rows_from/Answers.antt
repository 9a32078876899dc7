use Rattle.mq_tables.specs.Lent.{key_params}
use Rattle.mq_tables.proofs.Selected.{is_read}
use Rattle.mq_tables.proofs.usages.Days.{days_select, found_all}
use Rattle.mq_tables.proofs.over.rows_from.Goals as goal

pub returns : goal.returns
returns g c =
    is_read days_select (key_params c.args.login.now c.args.from_day) c.query_all.result c.query_all.ensures.same_reference (rw c.key_params.ensures at c.query_all.ensures.ok) (rw c.key_params.ensures at c.query_all.ensures.err) c.query_all.ensures.survives (found_all c.args.login.now c.args.from_day)
