use Rattle.mq_ledger.proofs.Numbers.{one_more, legal_more, legal_again}
use Rattle.mq_ledger.proofs.laws.one_more_arrival.Goals as goal

pub returns-clause-arrived : goal.returns-clause-arrived
returns-clause-arrived c = one_more

pub returns-clause-legal : goal.returns-clause-legal
returns-clause-legal c = legal_more

pub returns-clause-again : goal.returns-clause-again
returns-clause-again c = legal_again
