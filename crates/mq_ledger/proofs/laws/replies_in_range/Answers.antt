use Rattle.mq_ledger.proofs.Words.{All-from_recursion, IsReply}
use Rattle.mq_ledger.proofs.Clocks.{zone_days}
use Rattle.mq_ledger.proofs.Ranges.{reply_range, legal_replies}
use Rattle.mq_ledger.proofs.laws.replies_in_range.Goals as goal

pub returns-clause-days : goal.returns-clause-days
returns-clause-days c = zone_days

pub returns-clause-replies : goal.returns-clause-replies
returns-clause-replies c = reply_range

pub returns-clause-stored : goal.returns-clause-stored
returns-clause-stored c = λ day default H low days legal. All-from_recursion (λ e. IsReply e.reply) H (legal_replies day default H low days legal)
