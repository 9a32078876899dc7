use Rattle.mq_command.proofs.Words.{not_lower}
use Rattle.mq_command.specs.Lower.{none_looked_at}
use Rattle.mq_command.proofs.lower.find_lower.Goals as goal

pub loop-count-init : goal.loop-count-init
loop-count-init g c = none_looked_at

pub loop-count-preserved : goal.loop-count-preserved
loop-count-preserved g c =
    let none = rw c.in-Ok-None.field-0-is at c.in-Ok-None.ensures in
    not_lower _ _ _ c.loop-count.invariant none
