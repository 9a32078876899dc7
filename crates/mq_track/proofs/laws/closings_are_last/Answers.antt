use Rattle.mq_track.proofs.Closings.{none_stands_closed, closed_once, closed_began}
use Rattle.mq_track.proofs.laws.closings_are_last.Goals as goal

pub returns : goal.returns
returns c = record { standing = none_stands_closed; once = closed_once; began = closed_began }
