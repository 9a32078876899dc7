use Rattle.mq_command.proofs.Words.{sym}
use Rattle.mq_command.proofs.TotalSteps.{totals_more}
use Rattle.mq_command.proofs.totals.sum.totals.Goals as goal

pub loop-place-preserved : goal.loop-place-preserved
loop-place-preserved c =
    let more = totals_more c.args.parts.now c.args.logins.now c.loop-place.place c.index-logins-place.result c.loop-place-test.true c.index-logins-place.is in
    rw (c.in_ok-push.ensures.items, c.loop-place.invariant, c.in_ok-total.ensures) (sym more)
