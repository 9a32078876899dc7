use Rattle.mq_lemmas.proofs.Numbers.{le_is, lt_is}
use Rattle.mq_forget.proofs.Staying.{later_alike, early_lost, unheard_alike, same_floor}
use Rattle.mq_forget.proofs.laws.transactions_are_kept.Goals as goal

pub returns-clause-later : goal.returns-clause-later
returns-clause-later c = λ day D H t e named le. later_alike day D H t e named (le_is _ _ le)

pub returns-clause-earlier : goal.returns-clause-earlier
returns-clause-earlier c = λ day D H t e named early. early_lost day D H t e named (lt_is _ _ early)

pub returns-clause-unheard : goal.returns-clause-unheard
returns-clause-unheard c = unheard_alike

pub returns-clause-floor : goal.returns-clause-floor
returns-clause-floor c = same_floor
