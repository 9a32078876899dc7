use Rattle.std.proofs.Common.{sym, subst}
use Rattle.mq_tables.specs.Inside.{Writes}
use Rattle.mq_tables.specs.Updates.{WritesTransaction}
use Rattle.mq_tables.proofs.transaction.write_transaction.Goals as goal

pub returns-in-Update : goal.returns-in-Update
returns-in-Update g c = subst (λ write. Writes g.S.Store c.args.tx.now c.update_transaction.new.tx c.update_transaction.result (WritesTransaction write)) (sym c.in-Update.is) c.update_transaction.ensures
