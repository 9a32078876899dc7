use Rattle.mq_command.proofs.Words.{cleared}
use Rattle.mq_command.specs.Later.{no_day}
use Rattle.mq_command.proofs.later.clear_later.Goals as goal

pub loop-count-init : goal.loop-count-init
loop-count-init g c = no_day

pub loop-count-preserved : goal.loop-count-preserved
loop-count-preserved g c =
    let none = rw c.in-Ok-None.field-0-is at c.in-Ok-None.ensures in
    cleared _ _ _ c.loop-count.invariant (rw c.most_on.ensures.is at none)
