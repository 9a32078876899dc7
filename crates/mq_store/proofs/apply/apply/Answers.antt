use Rattle.std.proofs.Common.{arith, rules, ◌≡◌}
use Rattle.mq_store.proofs.Words.{HasCleanDisk, on_err, state, survives_begin}
use Rattle.mq_store.proofs.Crashes.{leaves_all, leaves_either}
use Rattle.mq_store.proofs.apply.apply.Goals as goal

pub returns-in_err-commit-clause-crash_err : goal.returns-in_err-commit-clause-crash_err
returns-in_err-commit-clause-crash_err g c =
    let same : c.commit.new.self.0 ≡ c.connection-2-1.given.0 = search rules in
    let before = survives_begin g.S.Store c.args.connection.now (state g.S.Store c.take.new.tx.conn.now) (λ _. ⊥) (rw c.transaction-tx.ensures.begun at c.take.ensures.leaves.survives) in
    rw (← same) (λ clean. on_err _ _ ((leaves_either c.trees_have_one_schema.ensures c.args.zone c.args.default c.args.request.now (state g.S.Store c.args.connection.now) (state g.S.Store c.take.new.tx.conn.now) (state g.S.Store c.commit.new.self.0)
    c.in_ok-reply.field-0 (λ mid. rw c.transaction-tx.ensures.begun at (c.in_ok-reply.ensures.taken mid)) before c.commit.ensures.survives).crash clean))

pub returns-clause-crash_new : goal.returns-clause-crash_new
returns-clause-crash_new g c = λ clean H has is_first db left.
    let same : c.commit.new.self.0 ≡ c.connection-2-1.given.0 = search rules in
    let all : db ≡ (state g.S.Store c.connection-2-1.given.0).now.trees = search rules in
    let after : HasCleanDisk (state g.S.Store c.commit.new.self.0) = rw same clean in
    let mid : HasCleanDisk (state g.S.Store c.take.new.tx.conn.now) = omega (arith, c.commit.ensures.survives.clean, after) in
    let taken = rw (c.transaction-tx.ensures.begun, c.in-Written.is) at (c.in_ok-reply.ensures.taken mid) in
    let shown = rw same at ((c.in_ok-commit.ensures.ok after).1.now_is) in
    leaves_all c.trees_have_one_schema.ensures c.args.zone c.args.default c.args.request.now (state g.S.Store c.args.connection.now) (state g.S.Store c.take.new.tx.conn.now) (state g.S.Store c.connection-2-1.given.0) c.in-Written.reply db taken shown all
