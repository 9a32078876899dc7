use Rattle.mq_ledger.proofs.Within.{StaysWithin, legal_good}
use Rattle.mq_ledger.proofs.laws.within_limits.Goals as goal

pub returns : goal.returns
unfolding StaysWithin
returns c = λ day default H legal l d. (legal_good day default H legal).within l d
