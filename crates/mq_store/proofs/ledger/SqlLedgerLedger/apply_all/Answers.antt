use Rattle.std.proofs.Common.{ap}
use Rattle.mq_store.proofs.Words.{Book, state}
use Rattle.mq_store.specs.Soundness.{book_in}
use Rattle.mq_store.specs.Together.{book_with}
use Rattle.mq_store.proofs.Rounds.{finds_all, finds_all_or_none}
use Rattle.mq_store.proofs.Sound.{book_had, means_book, sound_book}
use Rattle.mq_store.proofs.ledger.SqlLedgerLedger.apply_all.Goals as goal

pub returns-in-Ok-clause-replies : goal.returns-in-Ok-clause-replies
returns-in-Ok-clause-replies g c = rw (← c.self.view_is) (λ kept sound.
    let l = c.self.inside in
    let old = state g.S.Store l.connection in
    (c.in-Ok.ensures.applied kept (book_in l.zone l.default old.now).history (book_had l.zone l.default old sound)).0)

pub returns-in-Ok-clause-history : goal.returns-in-Ok-clause-history
returns-in-Ok-clause-history g c = rw (← c.self.view_is) (λ kept sound.
    let l = c.self.inside in
    let old = state g.S.Store l.connection in
    let H = (book_in l.zone l.default old.now).history in
    let over = (c.in-Ok.ensures.applied kept H (book_had l.zone l.default old sound)).1 in
    ap (λ (b : Book). b.history) (means_book c.tables_mean_their_book.ensures (book_with l.zone l.default H c.args.arrivals.now) _ over))

pub returns-in-Ok-clause-sound : goal.returns-in-Ok-clause-sound
returns-in-Ok-clause-sound g c = rw (← c.self.view_is) (λ kept sound.
    let l = c.self.inside in
    let old = state g.S.Store l.connection in
    let H = (book_in l.zone l.default old.now).history in
    let over = (c.in-Ok.ensures.applied kept H (book_had l.zone l.default old sound)).1 in
    sound_book c.tables_mean_their_book.ensures (book_with l.zone l.default H c.args.arrivals.now) (state g.S.Store c.apply_all.new.connection) kept over)

pub returns-in-Ok-clause-found_ok : goal.returns-in-Ok-clause-found_ok
returns-in-Ok-clause-found_ok g c = rw (← c.self.view_is) (λ clean.
    finds_all c.self.inside.zone c.self.inside.default c.tables_mean_their_book.ensures c.args.arrivals.now c.apply_all.new.replies.items (state g.S.Store c.self.inside.connection) (state g.S.Store c.apply_all.new.connection) (c.in-Ok.ensures.crash_ok clean))

pub returns-in-Err-clause-found_err : goal.returns-in-Err-clause-found_err
returns-in-Err-clause-found_err g c = rw (← c.self.view_is) (λ clean.
    finds_all_or_none c.self.inside.zone c.self.inside.default c.args.arrivals.now (state g.S.Store c.self.inside.connection) (state g.S.Store c.apply_all.new.connection) (c.in-Err.ensures.crash_err clean))

pub returns-in-Err-clause-crash_err : goal.returns-in-Err-clause-crash_err
returns-in-Err-clause-crash_err g c = rw (← c.self.view_is) c.in-Err.ensures.crash_err
