use Rattle.mq_ledger.proofs.Summing.{held_at_most, settled_at_most, held_by_all, settled_by_all}
use Rattle.mq_ledger.proofs.laws.sums_over_transactions.Goals as goal

pub returns-clause-held : goal.returns-clause-held
returns-clause-held c = held_at_most

pub returns-clause-settled : goal.returns-clause-settled
returns-clause-settled c = settled_at_most

pub returns-clause-all_held : goal.returns-clause-all_held
returns-clause-all_held c = held_by_all

pub returns-clause-all_settled : goal.returns-clause-all_settled
returns-clause-all_settled c = settled_by_all
