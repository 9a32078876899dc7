use Rattle.std.proofs.Common.{subst, sym}
use Rattle.mq_store.proofs.Words.{HasLedger, state, was_clean}
use Rattle.mq_store.proofs.transaction_days.days_until.Goals as goal

pub returns-in_default-clause-found : goal.returns-in_default-clause-found
returns-in_default-clause-found g c clean = λ t l. rw c.in_default.is at (c.in_ok-oldest.ensures.found clean t l)

pub returns-in_default-2-clause-found : goal.returns-in_default-2-clause-found
returns-in_default-2-clause-found g c clean = λ t l.
    let one = was_clean c.newest_until.ensures.leaves clean in
    let same = c.in_ok-oldest.ensures.same one in
    let next : HasLedger (state g.S.Store c.oldest_until.new.tx.conn.now).now t = subst (λ db. HasLedger db t) (sym same.0.now_is) l in
    rw c.in_default-2.is at (c.in_ok-newest.ensures.found clean t next)

pub returns-clause-found : goal.returns-clause-found
returns-clause-found g c clean = λ t l.
    let one = was_clean c.newest_until.ensures.leaves clean in
    let same = c.in_ok-oldest.ensures.same one in
    let next : HasLedger (state g.S.Store c.oldest_until.new.tx.conn.now).now t = subst (λ db. HasLedger db t) (sym same.0.now_is) l in
    (rw c.in-Some.is at (c.in_ok-oldest.ensures.found one t l), rw c.in-Some-2.is at (c.in_ok-newest.ensures.found clean t next))
