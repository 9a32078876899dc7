use Rattle.std.proofs.Common.{sym, subst}
use Rattle.mq_tables.specs.Inside.{Writes}
use Rattle.mq_tables.specs.Updates.{WritesUsage}
use Rattle.mq_tables.proofs.usage.write_usage.Goals as goal

pub returns-in-Update : goal.returns-in-Update
returns-in-Update g c = subst (λ write. Writes g.S.Store c.args.tx.now c.update_usage.new.tx c.update_usage.result (WritesUsage write)) (sym c.in-Update.is) c.update_usage.ensures
