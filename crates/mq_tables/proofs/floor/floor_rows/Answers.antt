use Rattle.mq_tables.specs.Lent.{host_params}
use Rattle.mq_tables.proofs.ByKey.{floor_select, floor_found}
use Rattle.mq_tables.proofs.Selected.{is_read}
use Rattle.mq_tables.proofs.floor.floor_rows.Goals as goal

pub returns : goal.returns
returns g c =
    is_read floor_select (host_params c.args.host.now) c.query_all.result c.query_all.ensures.same_reference (rw c.host_params.ensures at c.query_all.ensures.ok) (rw c.host_params.ensures at c.query_all.ensures.err) c.query_all.ensures.survives (floor_found c.args.host.now)
