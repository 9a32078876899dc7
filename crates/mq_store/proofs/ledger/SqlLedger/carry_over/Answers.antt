use Rattle.mq_store.proofs.Words.{state}
use Rattle.mq_store.specs.Soundness.{book_in}
use Rattle.mq_store.proofs.Filling.{found_filled, found_filled_or}
use Rattle.mq_store.proofs.Renewals.{renewed}
use Rattle.mq_store.proofs.Sound.{book_had}
use Rattle.mq_store.proofs.ledger.SqlLedger.carry_over.Goals as goal

pub returns-clause-remembered : goal.returns-clause-remembered
returns-clause-remembered g c = rw (← c.old.view_is) (λ clean clean_new sound free.
    let l = c.old.inside in
    let old = state g.T.Store l.connection in
    let new = state g.S.Store c.fill_store.new.into in
    renewed l.zone l.default c.args.day c.tables_mean_their_book.ensures old new (record { clean = clean_new; is_open = c.in-Ok.ensures.open clean_new })
    ((rw c.set_step_limit.ensures at (c.in-Ok.ensures.filled clean clean_new)) (book_in l.zone l.default old.now).history (book_had l.zone l.default old sound) free))

pub returns-clause-found_ok : goal.returns-clause-found_ok
returns-clause-found_ok g c = rw (← c.old.view_is) (λ clean clean_new.
    let l = c.old.inside in
    found_filled c.trees_have_one_schema.ensures l.zone l.default c.args.day (state g.T.Store l.connection).now (state g.S.Store c.args.connection).now (state g.S.Store c.fill_store.new.into)
    (rw c.set_step_limit.ensures at (c.in-Ok.ensures.filled clean clean_new)) (c.in-Ok.ensures.crash_ok clean_new))

pub returns-in-Err-clause-found_err : goal.returns-in-Err-clause-found_err
returns-in-Err-clause-found_err g c = rw (← c.old.view_is) (λ clean clean_new.
    let l = c.old.inside in
    found_filled_or c.trees_have_one_schema.ensures l.zone l.default c.args.day (state g.T.Store l.connection).now (state g.S.Store c.args.connection) (state g.S.Store c.fill_store.new.into)
    (rw c.set_step_limit.ensures at (c.in-Err.ensures.crash_err clean clean_new)))
