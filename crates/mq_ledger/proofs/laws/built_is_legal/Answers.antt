use Rattle.mq_ledger.proofs.Numbers.{legal_build}
use Rattle.mq_ledger.proofs.laws.built_is_legal.Goals as goal

pub returns : goal.returns
returns c = legal_build
