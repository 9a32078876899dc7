use Rattle.mq_tables.proofs.Chain.{is_made}
use Rattle.mq_tables.proofs.audits.Reads.{limits_of_rows}
use Rattle.mq_tables.proofs.limits.read_limits.Goals as goal

pub returns : goal.returns
returns g c =
    is_made c.limits_in.result c.in_ok-rows.ensures (λ shown. limits_of_rows _ _ c.limits_in.result shown (rw c.as_slice.ensures.value at c.limits_in.ensures))
