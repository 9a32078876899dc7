use Rattle.mq_tables.specs.Lent.{key_params}
use Rattle.mq_tables.proofs.Selected.{is_read}
use Rattle.mq_tables.proofs.governing.Governing.{latest_select, found_governing}
use Rattle.mq_tables.proofs.ceiling.latest_rows.Goals as goal

pub returns : goal.returns
returns g c =
    is_read latest_select (key_params c.args.login.now c.args.day) c.query_all.result c.query_all.ensures.same_reference (rw c.key_params.ensures at c.query_all.ensures.ok) (rw c.key_params.ensures at c.query_all.ensures.err) c.query_all.ensures.survives (found_governing c.args.login.now c.args.day)
