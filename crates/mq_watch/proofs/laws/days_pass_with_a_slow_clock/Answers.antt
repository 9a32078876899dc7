use Rattle.mq_watch.proofs.Running.{days_pass}
use Rattle.mq_watch.proofs.laws.days_pass_with_a_slow_clock.Goals as goal

pub returns : goal.returns
returns c = days_pass
