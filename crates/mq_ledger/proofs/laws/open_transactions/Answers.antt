use Rattle.mq_ledger.proofs.Entries.{open_settled, unended_kept, unheard_ended, unheard_held, unheard_settled}
use Rattle.mq_ledger.proofs.laws.open_transactions.Goals as goal

pub returns-clause-unheard : goal.returns-clause-unheard
returns-clause-unheard c = λ H t h. (unheard_ended H t h, unheard_held H t h, unheard_settled H t h)

pub returns-clause-open : goal.returns-clause-open
returns-clause-open c = open_settled

pub returns-clause-kept : goal.returns-clause-kept
returns-clause-kept c = unended_kept
