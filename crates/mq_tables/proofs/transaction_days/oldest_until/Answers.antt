use Rattle.mq_tables.specs.TransactionDays.{IsOldestUntil}
use Rattle.mq_tables.proofs.Chain.{is_made}
use Rattle.mq_tables.proofs.transactions.Ends.{day_after}
use Rattle.mq_tables.proofs.transaction_days.oldest_until.Goals as goal

pub returns : goal.returns
returns g c =
    is_made c.first_day.result c.in_ok-rows.ensures (λ shown. day_after (IsOldestUntil c.args.until) _ _ c.first_day.result shown (rw c.as_slice.ensures.value at c.first_day.ensures))
