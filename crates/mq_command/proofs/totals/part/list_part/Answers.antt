use Rattle.mq_command.proofs.PageSteps.{listing}
use Rattle.mq_command.proofs.totals.part.list_part.Goals as goal

pub returns-in-Ok-clause-listing : goal.returns-in-Ok-clause-listing
returns-in-Ok-clause-listing g c = rw c.new.ensures (listing c.args.day _ _ _ c.in-Ok.ensures)
