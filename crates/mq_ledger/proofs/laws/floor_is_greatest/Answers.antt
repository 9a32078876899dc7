use Rattle.mq_ledger.proofs.Floors.{greatest, only_greatest}
use Rattle.mq_ledger.proofs.laws.floor_is_greatest.Goals as goal

pub returns-clause-greatest : goal.returns-clause-greatest
returns-clause-greatest c = greatest

pub returns-clause-only : goal.returns-clause-only
returns-clause-only c = only_greatest
