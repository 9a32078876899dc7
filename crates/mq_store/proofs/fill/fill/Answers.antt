use Rattle.mq_store.proofs.Words.{on_ok_weaker, state, was_clean}
use Rattle.mq_store.proofs.Filling.{fills_over}
use Rattle.mq_store.proofs.fill.fill.Goals as goal

pub returns-clause-filled : goal.returns-clause-filled
returns-clause-filled g c clean clean_into =
    let from = state g.S.Store c.args.from.now.conn.now in
    let old = state g.T.Store c.args.into.now.conn.now in
    let mid = state g.T.Store c.make.new.tx.conn.now in
    let new = state g.T.Store c.carry_apart.new.into.conn.now in
    let sure = was_clean c.carry_apart.ensures.into_leaves clean_into in
    on_ok_weaker c.carry_apart.result (fills_over c.args.terms.now.zone c.args.terms.now.default c.args.terms.now.day from.now old.now mid.now new.now (c.in_ok-make.ensures.blank sure))
    (c.carry_apart.ensures.carried clean clean_into)
