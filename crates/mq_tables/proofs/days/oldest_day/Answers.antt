use Rattle.mq_rows.specs.Days.{IsOldest}
use Rattle.mq_tables.proofs.Chain.{is_made}
use Rattle.mq_tables.proofs.usages.Ends.{day_after}
use Rattle.mq_tables.proofs.days.oldest_day.Goals as goal

pub returns : goal.returns
returns g c =
    is_made c.first_day.result c.in_ok-rows.ensures (λ shown. day_after IsOldest _ _ c.first_day.result shown (rw c.as_slice.ensures.value at c.first_day.ensures))
