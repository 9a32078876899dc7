use Rattle.mq_store.proofs.Entries.{day_is}
use Rattle.mq_store.proofs.laws.transactions_have_days.Goals as goal

pub returns : goal.returns
returns c = day_is
