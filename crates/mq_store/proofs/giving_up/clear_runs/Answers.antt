use Rattle.mq_store.proofs.Words.{on_ok_weaker, state, was_clean}
use Rattle.mq_store.proofs.Clearings.{runs_cleared}
use Rattle.mq_store.proofs.giving_up.clear_runs.Goals as goal

pub returns-clause-cleared : goal.returns-clause-cleared
returns-clause-cleared g c clean =
    let mid = was_clean c.clear_all.ensures.leaves clean in
    let same = c.in_ok-places.ensures.same mid in
    on_ok_weaker c.clear_all.result (runs_cleared c.args.runs.now c.in_ok-places.places.items (state g.S.Store c.args.tx.now.conn.now).now (state g.S.Store c.answer_places.new.tx.conn.now).now (state g.S.Store c.clear_all.new.tx.conn.now).now
    same.0.now_is (c.in_ok-places.ensures.found mid)) (rw c.as_slice.ensures.value at (c.clear_all.ensures.cleared clean))
