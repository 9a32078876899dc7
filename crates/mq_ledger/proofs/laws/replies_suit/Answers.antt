use Rattle.mq_ledger.proofs.Words.{All-from_recursion, Suits}
use Rattle.mq_ledger.proofs.Suiting.{answer_suits, legal_suited, reply_suits}
use Rattle.mq_ledger.proofs.laws.replies_suit.Goals as goal

pub returns-clause-answer : goal.returns-clause-answer
returns-clause-answer c = answer_suits

pub returns-clause-stored : goal.returns-clause-stored
returns-clause-stored c = λ day default H legal. All-from_recursion (λ e. Suits e.request e.reply) H (legal_suited day default H legal)

pub returns-clause-reply : goal.returns-clause-reply
returns-clause-reply c = reply_suits (λ r q. (c.same_is_equal.ensures.request r q).0)
