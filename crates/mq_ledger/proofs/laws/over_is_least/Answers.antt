use Rattle.std.proofs.Common.{refl}
use Rattle.mq_ledger.proofs.Overs.{over_least, least_is_over}
use Rattle.mq_ledger.proofs.laws.over_is_least.Goals as goal

pub returns-clause-least : goal.returns-clause-least
returns-clause-least c = λ day H l from c. over_least day H l from c _ refl

pub returns-clause-only : goal.returns-clause-only
returns-clause-only c = least_is_over
