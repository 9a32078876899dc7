use Rattle.mq_program.proofs.ReplaySteps.{of_text}
use Rattle.mq_program.proofs.replaying.replay_text.Goals as goal

pub returns-clause-replays : goal.returns-clause-replays
returns-clause-replays g c = of_text _ _ _ _ _ _ _ c.in-Ok.ensures.hex c.in-Ok.ensures.connections (rw c.as_slice.ensures.value at c.replay_over_new.ensures.replays)
