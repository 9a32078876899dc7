use Rattle.mq_client.proofs.Bounding.{bounded, few_exchanges}
use Rattle.mq_client.proofs.laws.few_at_a_time.Goals as goal

pub returns : goal.returns
returns c = record { bounded = bounded; exchanges = few_exchanges }
