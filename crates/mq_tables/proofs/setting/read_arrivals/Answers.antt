use Rattle.mq_tables.proofs.settings.Arrivals.{arrivals_after}
use Rattle.mq_tables.proofs.setting.read_arrivals.Goals as goal

pub returns-clause-found : goal.returns-clause-found
returns-clause-found g c clean =
    arrivals_after _ _ c.first_natural.result (c.in_ok-rows.ensures.found clean) (rw c.as_slice.ensures.value at c.first_natural.ensures)
