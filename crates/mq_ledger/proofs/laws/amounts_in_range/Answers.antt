use Rattle.mq_ledger.proofs.Summing.{used_amounts, held_amounts}
use Rattle.mq_ledger.proofs.laws.amounts_in_range.Goals as goal

pub returns-clause-used : goal.returns-clause-used
returns-clause-used c = used_amounts

pub returns-clause-held : goal.returns-clause-held
returns-clause-held c = held_amounts
