use Rattle.mq_command.proofs.Words.{false, is_sought, other_day, rules, ◌≡◌}
use Rattle.mq_command.specs.Usage.{no_day}
use Rattle.mq_command.proofs.look_back.look_back.Goals as goal

pub loop-count-init : goal.loop-count-init
loop-count-init g c = no_day

pub loop-count-preserved : goal.loop-count-preserved
loop-count-preserved g c =
    let other : is_sought c.args.sought c.in-Ok.usage ≡ false = search rules in
    other_day _ _ _ c.in-Ok.usage c.loop-count.invariant c.in-Ok.ensures.asked other
