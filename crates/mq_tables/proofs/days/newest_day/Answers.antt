use Rattle.mq_rows.specs.Days.{IsNewest}
use Rattle.mq_tables.proofs.Chain.{is_made}
use Rattle.mq_tables.proofs.usages.Ends.{day_after}
use Rattle.mq_tables.proofs.days.newest_day.Goals as goal

pub returns : goal.returns
returns g c =
    is_made c.first_day.result c.in_ok-rows.ensures (λ shown. day_after IsNewest _ _ c.first_day.result shown (rw c.as_slice.ensures.value at c.first_day.ensures))
