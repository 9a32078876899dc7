use Rattle.std.proofs.Common.{sym, subst}
use Rattle.mq_tables.specs.Inside.{Writes}
use Rattle.mq_tables.specs.Updates.{WritesFloor}
use Rattle.mq_tables.proofs.floor.write_floor.Goals as goal

pub returns-in-Update : goal.returns-in-Update
returns-in-Update g c = subst (λ write. Writes g.S.Store c.args.tx.now c.update_floor.new.tx c.update_floor.result (WritesFloor write)) (sym c.in-Update.is) c.update_floor.ensures
