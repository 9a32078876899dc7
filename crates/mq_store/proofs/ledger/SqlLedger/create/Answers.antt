use Rattle.std.proofs.Common.{[]}
use Rattle.mq_store.proofs.Words.{state}
use Rattle.mq_store.specs.Opening.{made_with}
use Rattle.mq_store.specs.Taking.{book_of}
use Rattle.mq_store.proofs.Recovery.{finds_book, found_made_over}
use Rattle.mq_store.proofs.Sound.{made_new, new_book}
use Rattle.mq_store.proofs.ledger.SqlLedger.create.Goals as goal

pub returns-in-Ok-clause-sound : goal.returns-in-Ok-clause-sound
returns-in-Ok-clause-sound g c clean counters unnamed =
    made_new c.args.zone c.args.default (state g.S.Store c.args.connection) (state g.S.Store c.make_ledger.new.conn) c.new_setting-made_with.ensures.in_range c.requires.in_range
    (rw (c.set_step_limit.ensures, c.new_setting-made_with.ensures.value) at (c.in-Ok.ensures.made clean)) (record { clean = clean; is_open = c.in-Ok.ensures.open clean }) counters unnamed

pub returns-in-Ok-clause-found_ok : goal.returns-in-Ok-clause-found_ok
returns-in-Ok-clause-found_ok g c clean counters unnamed =
    let new = state g.S.Store c.make_ledger.new.conn in
    finds_book c.trees_have_one_schema.ensures (book_of c.args.zone c.args.default []) new (new_book c.args.zone c.args.default new (returns-in-Ok-clause-sound g c clean counters unnamed)) (c.in-Ok.ensures.crash_ok clean)

pub returns-in-Err-clause-found_err : goal.returns-in-Err-clause-found_err
returns-in-Err-clause-found_err g c clean =
    found_made_over c.trees_have_one_schema.ensures (made_with c.args.zone c.args.default) (state g.S.Store c.args.connection) (state g.S.Store c.make_ledger.new.conn)
    (rw (c.set_step_limit.ensures, c.new_setting-made_with.ensures.value) at (c.in-Err.ensures.crash_err clean))
