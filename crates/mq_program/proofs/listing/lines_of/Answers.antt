use Rattle.std.proofs.Common.{sym}
use Rattle.mq_program.proofs.ListingSteps.{one_more}
use Rattle.mq_program.proofs.listing.lines_of.Goals as goal

pub loop-limit-preserved : goal.loop-limit-preserved
loop-limit-preserved c =
    one_more c.args.limits.now c.loop-limit.limit-index c.limit-item.result _ _ c.loop-limit-test.true (sym c.limit-item.is) c.loop-limit.invariant c.in_ok-push_limit.ensures
