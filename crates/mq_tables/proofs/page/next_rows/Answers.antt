use Rattle.mq_tables.specs.Paging.{just_above, from_params}
use Rattle.mq_tables.proofs.Selected.{is_read}
use Rattle.mq_tables.proofs.usages.Following.{next_select, found_next}
use Rattle.mq_tables.proofs.page.next_rows.Goals as goal

pub returns : goal.returns
returns g c =
    is_read next_select (from_params c.args.day (just_above c.args.after.now)) c.query_all.result c.query_all.ensures.same_reference (rw (c.from_params.ensures, c.as_slice.ensures.value, c.in_ok-from.ensures) at c.query_all.ensures.ok) (rw (c.from_params.ensures, c.as_slice.ensures.value, c.in_ok-from.ensures) at c.query_all.ensures.err) c.query_all.ensures.survives (found_next c.args.day c.args.after.now)
