use Rattle.std.proofs.Common.{take}
use Rattle.std.proofs.lemmas.List.{take_more}
use Rattle.mq_tables.proofs.usages.Earliest.{one_more}
use Rattle.mq_tables.proofs.over.earliest_over.Goals as goal

pub loop-row-preserved : goal.loop-row-preserved
loop-row-preserved c =
    rw (take_more c.args.rows.now c.loop-row.row-index c.row-item.result c.loop-row-test.true, ← c.row-item.is, c.or_earlier-first.ensures)
    (one_more c.args.cap c.row-item.result c.in_ok-of_row.field-0 c.in_ok-of_row.ensures (take c.loop-row.row-index c.args.rows.now) c.loop-row.first c.loop-row.invariant)
