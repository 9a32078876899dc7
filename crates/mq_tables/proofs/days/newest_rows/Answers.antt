use Rattle.std.proofs.Common.{[]}
use Rattle.mq_tables.proofs.Selected.{is_read}
use Rattle.mq_tables.proofs.usages.Ends.{newest_select, found_newest}
use Rattle.mq_tables.proofs.days.newest_rows.Goals as goal

pub returns : goal.returns
returns g c =
    is_read newest_select [] c.query_all.result c.query_all.ensures.same_reference c.query_all.ensures.ok c.query_all.ensures.err c.query_all.ensures.survives found_newest
