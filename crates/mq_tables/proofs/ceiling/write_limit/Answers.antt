use Rattle.std.proofs.Common.{sym, subst}
use Rattle.mq_tables.specs.Inside.{Writes}
use Rattle.mq_tables.specs.Updates.{WritesLimit}
use Rattle.mq_tables.proofs.ceiling.write_limit.Goals as goal

pub returns-in-Update : goal.returns-in-Update
returns-in-Update g c = subst (λ write. Writes g.S.Store c.args.tx.now c.update_limit.new.tx c.update_limit.result (WritesLimit write)) (sym c.in-Update.is) c.update_limit.ensures
