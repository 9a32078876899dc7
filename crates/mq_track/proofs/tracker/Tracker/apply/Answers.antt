use Rattle.std.proofs.Common.{rules}
use Rattle.mq_track.proofs.Moves.{stands_if_ok}
use Rattle.mq_track.proofs.tracker.Tracker.apply.Goals as goal

pub returns-clause-stands : goal.returns-clause-stands
returns-clause-stands c = stands_if_ok _ _ _ _ _ _ _ (search rules) c.take.ensures.ok
