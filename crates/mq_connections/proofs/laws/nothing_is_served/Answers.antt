use Rattle.std.proofs.Common.{Ok}
use Rattle.mq_lemmas.proofs.Options.{ok_not}
use Rattle.mq_connections.specs.declared.fault.RoomFault.TheVariants as faults
use Rattle.mq_connections.proofs.Standing.{nothing_served}
use Rattle.mq_connections.proofs.laws.nothing_is_served.Goals as goal

pub returns : goal.returns
returns c = λ who o legal. nothing_served o faults.Store (Ok tt) c.a_life_is_served.ensures.begins (c.more_exchanges.ensures.none o.book legal) (ok_not tt faults.Store)
