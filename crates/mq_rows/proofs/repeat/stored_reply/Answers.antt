use Rattle.mq_rows.proofs.Words.{id_range}
use Rattle.mq_rows.proofs.repeat.stored_reply.Goals as goal

pub returns-then-not-same-clause-in_range : goal.returns-then-not-same-clause-in_range
returns-then-not-same-clause-in_range c =
    let same = c.in_ok-clone.ensures.cases in
    let fits = id_range _ _ c.requires.in_range c.requires.number in
    record { host = rw same.0 fits.host; run = rw same.1.0 fits.run; number = rw same.1.1 fits.number }
