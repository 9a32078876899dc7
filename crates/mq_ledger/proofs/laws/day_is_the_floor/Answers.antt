use Rattle.mq_ledger.proofs.Clocks.{offset_floor}
use Rattle.mq_ledger.proofs.laws.day_is_the_floor.Goals as goal

pub returns : goal.returns
returns c = offset_floor
