use Rattle.std.proofs.Common.{refl}
use Rattle.mq_server.proofs.Advance.{answered_both, quiet}
use Rattle.mq_server.proofs.laws.more_exchanges.Goals as goal

pub returns-clause-none : goal.returns-clause-none
returns-clause-none c = λ b legal. quiet b b.history legal refl

pub returns-clause-more : goal.returns-clause-more
returns-clause-more c = answered_both
