use Rattle.mq_tables.proofs.Chain.{is_made}
use Rattle.mq_tables.proofs.usages.Following.{next_after}
use Rattle.mq_tables.proofs.page.next_usage.Goals as goal

pub returns : goal.returns
returns g c =
    is_made c.first_of_day.result c.in_ok-rows.ensures (λ shown. next_after c.args.day c.args.after.now _ _ c.first_of_day.result shown (rw c.as_slice.ensures.value at c.first_of_day.ensures))
