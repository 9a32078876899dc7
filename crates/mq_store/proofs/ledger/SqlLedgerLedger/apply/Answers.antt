use Rattle.std.proofs.Common.{ap}
use Rattle.mq_store.proofs.Words.{Book, state}
use Rattle.mq_store.specs.Soundness.{book_in}
use Rattle.mq_store.specs.Taking.{book_after}
use Rattle.mq_store.proofs.Recovery.{found_new}
use Rattle.mq_store.proofs.Sound.{book_had, means_book, sound_book}
use Rattle.mq_store.proofs.ledger.SqlLedgerLedger.apply.Goals as goal

pub returns-in-Ok-clause-history : goal.returns-in-Ok-clause-history
returns-in-Ok-clause-history g c = rw (← c.self.view_is) (λ kept sound.
    let l = c.self.inside in
    let old = state g.S.Store l.connection in
    let H = (book_in l.zone l.default old.now).history in
    let over = (c.in-Ok.ensures.applied kept H (book_had l.zone l.default old sound)).1 in
    ap (λ (b : Book). b.history) (means_book c.tables_mean_their_book.ensures (book_after l.zone l.default H c.args.request.now) _ over))

pub returns-in-Ok-clause-sound : goal.returns-in-Ok-clause-sound
returns-in-Ok-clause-sound g c = rw (← c.self.view_is) (λ kept sound.
    let l = c.self.inside in
    let old = state g.S.Store l.connection in
    let H = (book_in l.zone l.default old.now).history in
    let over = (c.in-Ok.ensures.applied kept H (book_had l.zone l.default old sound)).1 in
    sound_book c.tables_mean_their_book.ensures (book_after l.zone l.default H c.args.request.now) (state g.S.Store c.apply.new.connection) kept over)

pub returns-in-Ok-clause-crash_new : goal.returns-in-Ok-clause-crash_new
returns-in-Ok-clause-crash_new g c = rw (← c.self.view_is) c.in-Ok.ensures.crash_new

pub returns-in-Ok-clause-found_ok : goal.returns-in-Ok-clause-found_ok
returns-in-Ok-clause-found_ok g c = rw (← c.self.view_is) (λ clean.
    found_new c.self.inside.zone c.self.inside.default c.args.request.now (state g.S.Store c.self.inside.connection) (state g.S.Store c.apply.new.connection) c.in-Ok.reply
    (λ H db. c.later_arrivals_add_nothing.ensures c.self.inside.zone c.self.inside.default H c.args.request.now db) (c.in-Ok.ensures.crash_new clean) (c.in-Ok.ensures.crash_old clean))
