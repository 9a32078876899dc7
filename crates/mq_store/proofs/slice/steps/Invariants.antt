use Rattle.std.proofs.Common.{IsTrue, ◌+◌, ◌≤◌}
use Rattle.mq_store.proofs.Words.{HasCleanDisk, CommitsNothing, over_memory, state}
use Rattle.mq_store.specs.Renewing.{GoesAtMost, Renews}
use Rattle.mq_store.specs.Taking.{Stays}
use Rattle.mq_store.proofs.slice.steps.Given as goal

abbrev pub invariant-loop-step : goal.invariant-loop-step
invariant-loop-step g l =
    let old = state g.S.Store l.fn.from.conn.now in
    let now = state g.S.Store l.from.conn.now in
    let old_into = state g.T.Store l.fn.into.conn.now in
    let now_into = state g.T.Store l.into.conn.now in
    let before = state over_memory l.fn.scratch.conn.now in
    let after = state over_memory l.scratch.conn.now in
    record {
      from_leaves : CommitsNothing g.S.Store l.fn.from l.from;
      into_leaves : CommitsNothing g.T.Store l.fn.into l.into;
      scratch_leaves : CommitsNothing over_memory l.fn.scratch l.scratch;
      stays : HasCleanDisk now → Stays old now;
      into_inside : HasCleanDisk now_into → IsTrue now_into.in_transaction;
      inside : IsTrue after.in_transaction;
      more : l.fn.at.place + l.fn.at.followed + l._step ≤ l.reached.place + l.reached.followed;
      most : GoesAtMost l._step l.fn.at l.reached;
      renews : HasCleanDisk now → HasCleanDisk now_into
          → Renews l.terms.zone l.terms.default l.terms.day l.fn.at l.reached old.now old_into.now now_into.now before.now after.now;
    }
