use Rattle.std.proofs.Common.{arith, false, inl, inr, rules, ◌≡◌}
use Rattle.mq_store.proofs.Words.{HasCleanDisk, on_err, state, survives_begin}
use Rattle.mq_store.proofs.Rounds.{leaves_none_or_all, leaves_whole, none_written}
use Rattle.mq_store.proofs.together.apply_all.Goals as goal

pub returns-in_err-commit-clause-crash_err : goal.returns-in_err-commit-clause-crash_err
returns-in_err-commit-clause-crash_err g c =
    let same : c.commit.new.self.0 ≡ c.connection-2-1.given.0 = search rules in
    let before = survives_begin g.S.Store c.args.connection.now (state g.S.Store c.take_each.new.tx.conn.now) (λ _. ⊥) (rw c.transaction-tx.ensures.begun at c.take_each.ensures.leaves.survives) in
    rw (← same) (λ clean. on_err _ _ ((leaves_none_or_all c.args.zone c.args.default c.trees_have_one_schema.ensures c.args.requests.now c.take_each.new.replies.items (state g.S.Store c.args.connection.now) (state g.S.Store c.take_each.new.tx.conn.now) (state g.S.Store c.commit.new.self.0)
    (λ mid. (rw c.transaction-tx.ensures.begun at (c.in_ok-is_written.ensures.taken mid)).0) before c.commit.ensures.survives).crash clean))

-- nothing is written
pub returns-then-not-is_written-clause-crash_ok : goal.returns-then-not-is_written-clause-crash_ok
returns-then-not-is_written-clause-crash_ok g c = λ clean db left.
    let mid : HasCleanDisk (state g.S.Store c.take_each.new.tx.conn.now) = search rules in
    let before : (state g.S.Store c.args.connection.now).may_leave db = search rules in
    let none : c.in_ok-is_written.is_written ≡ false = search rules in
    let taken = rw c.transaction-tx.ensures.begun at (c.in_ok-is_written.ensures.taken mid) in
    inr (none_written c.args.zone c.args.default c.args.requests.now c.take_each.new.replies.items c.in_ok-is_written.is_written (state g.S.Store c.args.connection.now).now (state g.S.Store c.take_each.new.tx.conn.now).now taken none, before)

-- all of it is committed
pub returns-clause-crash_ok : goal.returns-clause-crash_ok
returns-clause-crash_ok g c = λ clean db left.
    let same : c.commit.new.self.0 ≡ c.connection-2-1.given.0 = search rules in
    let all : db ≡ (state g.S.Store c.connection-2-1.given.0).now.trees = search rules in
    let after : HasCleanDisk (state g.S.Store c.commit.new.self.0) = rw same clean in
    let mid : HasCleanDisk (state g.S.Store c.take_each.new.tx.conn.now) = omega (arith, c.commit.ensures.survives.clean, after) in
    let taken = rw c.transaction-tx.ensures.begun at (c.in_ok-is_written.ensures.taken mid) in
    let shown = rw same at ((c.in_ok-commit.ensures.ok after).1.now_is) in
    inl (leaves_whole c.args.zone c.args.default c.trees_have_one_schema.ensures c.args.requests.now c.take_each.new.replies.items (state g.S.Store c.args.connection.now).now (state g.S.Store c.take_each.new.tx.conn.now).now (state g.S.Store c.connection-2-1.given.0).now db taken.0 shown all)
