use Rattle.mq_tables.proofs.transactions.Open.{opens_one_more}
use Rattle.mq_tables.proofs.retiring.opens_in.Goals as goal

pub loop-row-preserved : goal.loop-row-preserved
loop-row-preserved c =
    opens_one_more c.args.host.now c.args.rows.now c.loop-row.row-index _ _ c.loop-row.read.items c.push.new.self.items c.in_ok-open_of.field-0 c.loop-row-test.true c.row-item.is c.in_ok-push.ensures.items c.in_ok-open_of.ensures.read c.in_ok-open_of.ensures.storable c.loop-row.invariant
