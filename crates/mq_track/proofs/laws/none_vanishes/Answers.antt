use Rattle.mq_track.proofs.Vanishing as law
use Rattle.mq_track.proofs.laws.none_vanishes.Goals as goal

pub returns : goal.returns
returns c = law.none_vanishes
