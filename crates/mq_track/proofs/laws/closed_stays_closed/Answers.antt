use Rattle.mq_track.proofs.Numbers.{stay_closed}
use Rattle.mq_track.proofs.laws.closed_stays_closed.Goals as goal

pub returns : goal.returns
returns c = stay_closed
