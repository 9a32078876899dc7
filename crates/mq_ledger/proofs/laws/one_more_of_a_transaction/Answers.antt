use Rattle.mq_ledger.proofs.Words.{Suits, subst, sym}
use Rattle.mq_ledger.proofs.Entries.{held_push, settled_in_push}
use Rattle.mq_ledger.proofs.Suiting.{Opens, answer_suits, answer_opens}
use Rattle.mq_ledger.proofs.Transactions.{named_push, closed_push}
use Rattle.mq_ledger.proofs.laws.one_more_of_a_transaction.Goals as goal

pub returns-clause-named : goal.returns-clause-named
returns-clause-named c = named_push

pub returns-clause-closed : goal.returns-clause-closed
returns-clause-closed c = closed_push

pub returns-clause-held : goal.returns-clause-held
returns-clause-held c = held_push

pub returns-clause-settled : goal.returns-clause-settled
returns-clause-settled c = λ day default H e t is.
    settled_in_push H e t (subst (Suits e.request) (sym is) (answer_suits day default H e.request)) (subst (Opens H e.request) (sym is) (answer_opens day default H e.request))
