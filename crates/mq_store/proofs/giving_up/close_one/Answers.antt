use Rattle.std.proofs.Common.{subst}
use Rattle.mq_store.proofs.Words.{TransactionRecord, Update, UsageRecord, Write, WritesTransaction, WritesUsage, state, was_clean}
use Rattle.mq_store.proofs.Closings.{closes}
use Rattle.mq_store.proofs.giving_up.close_one.Goals as goal

pub returns-clause-closed : goal.returns-clause-closed
returns-clause-closed g c clean =
    let s0 = state g.S.Store c.args.tx.now.conn.now in
    let s1 = state g.S.Store c.find_usage.new.tx.conn.now in
    let s2 = state g.S.Store c.write_transaction.new.tx.conn.now in
    let s3 = state g.S.Store c.write_usage.new.tx.conn.now in
    let two = was_clean c.write_usage.ensures.leaves clean in
    let one = was_clean c.write_transaction.ensures.leaves two in
    let same = c.in_ok-usage.ensures.same one in
    let moved = subst (λ (r : TransactionRecord). WritesTransaction (Update r) s1 s2) c.in_ok-abandoned.ensures (c.in_ok-write_transaction.ensures.written two) in
    let summed = subst (λ (w : Write UsageRecord). WritesUsage w s2 s3) c.in_ok-totals.ensures (c.in_ok-write_usage.ensures.written clean) in
    closes c.args.was.now c.in_ok-usage.usage s0 s1 s2 s3 (c.in_ok-usage.ensures.found one) same.0.now_is moved summed
