use Rattle.mq_server.proofs.Deliveries.{replies_of_all}
use Rattle.mq_server.proofs.laws.arrivals_get_their_replies.Goals as goal

pub returns : goal.returns
returns c = replies_of_all
