use Rattle.std.proofs.Common.{[]}
use Rattle.mq_tables.proofs.Selected.{is_read}
use Rattle.mq_tables.proofs.audits.Reads.{limits_select, limits_found}
use Rattle.mq_tables.proofs.limits.limits_rows.Goals as goal

pub returns : goal.returns
returns g c =
    is_read limits_select [] c.query_all.result c.query_all.ensures.same_reference (rw c.text.ensures at c.query_all.ensures.ok) (rw c.text.ensures at c.query_all.ensures.err) c.query_all.ensures.survives limits_found
