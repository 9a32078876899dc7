use Rattle.mq_watch.proofs.Running.{right_now}
use Rattle.mq_watch.proofs.laws.a_clock_that_is_right_counts.Goals as goal

pub returns : goal.returns
returns c = right_now
