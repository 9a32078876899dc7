use Rattle.mq_command.proofs.Words.{arith, limit, no_limit, refl, ◌∙◌}
use Rattle.mq_command.proofs.AllowSteps.{room_more}
use Rattle.mq_command.proofs.allow.set_above.Goals as goal

pub loop-refused-init : goal.loop-refused-init
loop-refused-init g c = (refl, omega arith, no_limit)

pub loop-refused-preserved : goal.loop-refused-preserved
loop-refused-preserved g c =
    let (grown, small, refused) = c.loop-refused.invariant in
    let sent = rw (c.allowed-cap.ensures, grown, c.if-over-day.false) at (rw c.in-Err-Over.field-0-is at c.in-Err-Over.ensures) in (
      c.min-room.ensures ∙ room_more c.loop-refused.refused c.loop-refused.room grown,
      omega (arith, c.min-room.ensures),
      limit _ _ c.in-Err-Over.now _ _ refused sent,
    )
