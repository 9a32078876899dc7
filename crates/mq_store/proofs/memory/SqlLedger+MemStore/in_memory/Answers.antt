use Rattle.std.proofs.Common.{ap, subst, sym}
use Rattle.mq_store.proofs.Words.{AreUnnamed, lacks_sequence, memory_is_clean}
use Rattle.mq_store.proofs.memory.SqlLedger+MemStore.in_memory.Goals as goal

pub returns-in-Ok-create-clause-new : goal.returns-in-Ok-create-clause-new
returns-in-Ok-create-clause-new c =
    let (opens, live, schema) = c.in-Ok.ensures.empty in
    c.in-Ok-create.ensures.sound (memory_is_clean c.in-Ok-create.ledger.connection) (ap lacks_sequence schema) (subst AreUnnamed (sym schema) tt)
