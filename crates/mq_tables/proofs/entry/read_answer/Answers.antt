use Rattle.mq_tables.proofs.Chain.{is_made}
use Rattle.mq_tables.proofs.answers.Reads.{entry_after}
use Rattle.mq_tables.proofs.entry.read_answer.Goals as goal

pub returns : goal.returns
returns g c =
    is_made c.first_bodies.result c.in_ok-rows.ensures (λ shown. entry_after c.args.n _ _ c.first_bodies.result shown (rw c.as_slice.ensures.value at c.first_bodies.ensures))
