use Rattle.mq_ledger.proofs.Clocks.{day_in_zone}
use Rattle.mq_ledger.proofs.laws.day_of_the_civil_date.Goals as goal

pub returns : goal.returns
returns c = day_in_zone
