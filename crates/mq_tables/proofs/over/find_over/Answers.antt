use Rattle.mq_tables.proofs.Chain.{is_made}
use Rattle.mq_tables.proofs.usages.Days.{found_after}
use Rattle.mq_tables.proofs.over.find_over.Goals as goal

pub returns : goal.returns
returns g c =
    is_made c.first_over.result c.in_ok-rows.ensures (λ shown. found_after c.args.login.now c.args.from_day c.args.cap _ _ c.first_over.result shown (rw c.as_slice.ensures.value at c.first_over.ensures))
