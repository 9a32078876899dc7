use Rattle.mq_client.proofs.Returning.{actions_are, none_returns}
use Rattle.mq_client.proofs.laws.closed_is_not_asked_for.Goals as goal

pub returns : goal.returns
returns c = record { actions = actions_are; none_returns = none_returns c.closed_stays_closed.ensures }
