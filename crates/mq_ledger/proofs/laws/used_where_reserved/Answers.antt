use Rattle.mq_ledger.proofs.Summing.{held_is_reserved, settled_is_settled, none_reserved, none_settled}
use Rattle.mq_ledger.proofs.laws.used_where_reserved.Goals as goal

pub returns-clause-held : goal.returns-clause-held
returns-clause-held c = held_is_reserved

pub returns-clause-settled : goal.returns-clause-settled
returns-clause-settled c = settled_is_settled

pub returns-clause-none : goal.returns-clause-none
returns-clause-none c = λ day default H l d legal h. (none_reserved day H l d h, none_settled day default H l d legal h)
