use Rattle.std.proofs.Common.{[]}
use Rattle.mq_tables.proofs.Selected.{is_read}
use Rattle.mq_tables.proofs.usages.Ends.{oldest_select, found_oldest}
use Rattle.mq_tables.proofs.days.oldest_rows.Goals as goal

pub returns : goal.returns
returns g c =
    is_read oldest_select [] c.query_all.result c.query_all.ensures.same_reference c.query_all.ensures.ok c.query_all.ensures.err c.query_all.ensures.survives found_oldest
