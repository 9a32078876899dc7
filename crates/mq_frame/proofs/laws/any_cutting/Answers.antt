use Rattle.mq_frame.proofs.Cuts.{gives_frames, any_pieces}
use Rattle.mq_frame.proofs.laws.any_cutting.Goals as goal

pub returns-clause-first : goal.returns-clause-first
returns-clause-first c = gives_frames

pub returns-clause-same : goal.returns-clause-same
returns-clause-same c = any_pieces
