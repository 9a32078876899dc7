use Rattle.std.proofs.Common.{[]}
use Rattle.mq_tables.proofs.Selected.{is_read}
use Rattle.mq_tables.proofs.settings.Arrivals.{arrivals_select, found_arrivals}
use Rattle.mq_tables.proofs.setting.arrivals_rows.Goals as goal

pub returns : goal.returns
returns g c =
    is_read arrivals_select [] c.query_all.result c.query_all.ensures.same_reference c.query_all.ensures.ok c.query_all.ensures.err c.query_all.ensures.survives found_arrivals
