use Rattle.mq_command.proofs.Words.{arith, none_sent, one_refused, refl, sym}
use Rattle.mq_command.proofs.hold.hold.Goals as goal

pub loop-refused-init : goal.loop-refused-init
loop-refused-init g c = (omega arith, none_sent)

pub loop-refused-preserved : goal.loop-refused-preserved
loop-refused-preserved g c =
    let (small, refused) = c.loop-refused.invariant in
    let sent = rw c.held_cap-cap.ensures.is at (rw c.in-Err-Over.field-0-is at c.in-Err-Over.ensures) in
    (c.in-Again.ensures.room _ refl, one_refused _ _ _ _ _ _ _ refused sent (sym c.in-Again.ensures.is))
