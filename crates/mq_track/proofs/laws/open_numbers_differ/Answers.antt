use Rattle.mq_track.proofs.Numbers.{numbered, one_session}
use Rattle.mq_track.proofs.laws.open_numbers_differ.Goals as goal

pub returns : goal.returns
returns c = record { numbered = numbered; one_session = one_session }
