use Rattle.mq_client.proofs.Sending.{late_decided, late_undecided, late_sent, late_stopped}
use Rattle.mq_client.proofs.laws.when_pauses_begin.Goals as goal

pub returns : goal.returns
returns c = record { decided = late_decided; undecided = late_undecided; sent = late_sent; stopped = late_stopped }
