use Rattle.mq_ledger.proofs.Governing.{unset_is_default, latest_governs}
use Rattle.mq_ledger.proofs.laws.latest_limit_governs.Goals as goal

pub returns-clause-none : goal.returns-clause-none
returns-clause-none c = unset_is_default

pub returns-clause-latest : goal.returns-clause-latest
returns-clause-latest c = latest_governs
