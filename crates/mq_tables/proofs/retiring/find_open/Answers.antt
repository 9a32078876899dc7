use Rattle.mq_tables.proofs.transactions.Open.{opens_read}
use Rattle.mq_tables.proofs.retiring.find_open.Goals as goal

pub returns-clause-found : goal.returns-clause-found
returns-clause-found g c clean =
    opens_read c.args.runs.now _ _ c.opens_in.result (c.in_ok-rows.ensures.found clean) (rw c.as_slice.ensures.value at c.opens_in.ensures.read) c.opens_in.ensures.open
