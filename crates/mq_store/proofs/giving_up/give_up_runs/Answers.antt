use Rattle.mq_store.proofs.Words.{on_ok_weaker, state, was_clean}
use Rattle.mq_store.proofs.Clearings.{gives_up}
use Rattle.mq_store.proofs.giving_up.give_up_runs.Goals as goal

pub returns-clause-given_up : goal.returns-clause-given_up
returns-clause-given_up g c clean =
    let s0 = state g.S.Store c.args.tx.now.conn.now in
    let s1 = state g.S.Store c.clear_runs.new.tx.conn.now in
    let s2 = state g.S.Store c.find_open.new.tx.conn.now in
    let s3 = state g.S.Store c.close_all.new.tx.conn.now in
    let two = was_clean c.close_all.ensures.leaves clean in
    let one = was_clean c.find_open.ensures.leaves two in
    let same = c.in_ok-transactions.ensures.same two in
    on_ok_weaker c.close_all.result (gives_up c.args.runs.now c.in_ok-transactions.transactions.items s0 s1 s2 s3 (c.in_ok-clear_runs.ensures.cleared one) same.0.now_is (c.in_ok-transactions.ensures.found two)) (rw c.as_slice.ensures.value at (c.close_all.ensures.closed clean))
