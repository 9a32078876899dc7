use Rattle.mq_ledger.proofs.Freeing.{reserved_more, settled_more, retire_leaves_used}
use Rattle.mq_ledger.proofs.laws.one_more_on_a_day.Goals as goal

pub returns-clause-reserved : goal.returns-clause-reserved
returns-clause-reserved c = reserved_more

pub returns-clause-settled : goal.returns-clause-settled
returns-clause-settled c = settled_more

pub returns-clause-retired : goal.returns-clause-retired
returns-clause-retired c = retire_leaves_used
