use Rattle.mq_frame.proofs.Cuts.{part_short}
use Rattle.mq_frame.proofs.laws.part_of_a_frame.Goals as goal

pub returns : goal.returns
returns c = part_short
