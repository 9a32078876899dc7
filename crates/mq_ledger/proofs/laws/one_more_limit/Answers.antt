use Rattle.mq_ledger.proofs.Entries.{cap_push}
use Rattle.mq_ledger.proofs.laws.one_more_limit.Goals as goal

pub returns-clause-cap : goal.returns-clause-cap
returns-clause-cap c = cap_push
