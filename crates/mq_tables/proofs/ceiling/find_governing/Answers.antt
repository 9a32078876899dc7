use Rattle.mq_tables.proofs.Chain.{is_made}
use Rattle.mq_tables.proofs.governing.Governing.{governing_after}
use Rattle.mq_tables.proofs.ceiling.find_governing.Goals as goal

pub returns : goal.returns
returns g c =
    is_made c.first_limit.result c.in_ok-rows.ensures (λ shown. governing_after c.args.login.now c.args.day _ _ c.first_limit.result shown (rw c.as_slice.ensures.value at c.first_limit.ensures))
