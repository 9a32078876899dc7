use Rattle.mq_ledger.proofs.Europe.{winter, summers, short}
use Rattle.mq_ledger.proofs.laws.days_of_central_europe.Goals as goal

pub returns-clause-winter : goal.returns-clause-winter
returns-clause-winter c = winter

pub returns-clause-summer : goal.returns-clause-summer
returns-clause-summer c = summers

pub returns-clause-short : goal.returns-clause-short
returns-clause-short c = short
