use Rattle.mq_ledger.proofs.Firsts.{first_one_more, first_found}
use Rattle.mq_ledger.proofs.Numbers.{below_later}
use Rattle.mq_ledger.proofs.laws.first_arrivals.Goals as goal

pub returns-clause-one_more : goal.returns-clause-one_more
returns-clause-one_more c = first_one_more

pub returns-clause-each : goal.returns-clause-each
returns-clause-each c = λ A id. first_found id A

pub returns-clause-retired : goal.returns-clause-retired
returns-clause-retired c = below_later
