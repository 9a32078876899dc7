use Rattle.std.proofs.Common.{rules, ◌≡◌}
use Rattle.mq_store.proofs.Words.{HasCleanDisk, on_err, state, survives_begin}
use Rattle.mq_store.specs.Forgetting.{Fills}
use Rattle.mq_store.proofs.Filling.{leaves_filled}
use Rattle.mq_store.proofs.fill.fill_store.Goals as goal

pub returns-in_err-commit-clause-crash_err : goal.returns-in_err-commit-clause-crash_err
returns-in_err-commit-clause-crash_err g c clean_from =
    let from = state g.S.Store c.args.from.now in
    let old = state g.T.Store c.args.into.now in
    let mid = state g.T.Store c.fill.new.into.conn.now in
    let same : c.commit.new.self.0 ≡ c.into-2-1.given.0 = search rules in
    let read : HasCleanDisk (state g.S.Store c.fill.new.from.conn.now) = search rules in
    let before = survives_begin g.T.Store c.args.into.now mid (λ _. ⊥) (rw c.transaction-writing.ensures.begun at c.fill.ensures.into_leaves.survives) in
    let filled : HasCleanDisk mid → Fills c.args.terms.now.zone c.args.terms.now.default c.args.terms.now.day from.now old.now mid.now =
    rw (c.transaction-reading.ensures.begun, c.transaction-writing.ensures.begun) at (c.in_ok-fill.ensures.filled read) in
    rw (← same) (λ clean. on_err _ _ ((leaves_filled c.args.terms.now.zone c.args.terms.now.default c.args.terms.now.day from.now old mid (state g.T.Store c.commit.new.self.0) filled before c.commit.ensures.survives).crash clean))
