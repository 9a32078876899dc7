use Rattle.mq_store.proofs.Words.{state}
use Rattle.mq_store.specs.Opening.{IsFound}
use Rattle.mq_store.specs.Soundness.{book_in}
use Rattle.mq_store.proofs.OpenedBooks.{opens_book, refuses, finds_opened, finds_refused, same_refused, spares_refused, leaves_refused}
use Rattle.mq_store.proofs.ledger.SqlLedger.open.Goals as goal

pub returns-in-Ok-clause-rows : goal.returns-in-Ok-clause-rows
returns-in-Ok-clause-rows g c kept =
    opens_book c.args.zone c.args.default (state g.S.Store c.args.connection) (state g.S.Store c.open_store.new.connection) (c.in-Ok.ensures.exact kept.clean) c.tables_mean_their_book.ensures kept

pub returns-in-Ok-clause-sound : goal.returns-in-Ok-clause-sound
returns-in-Ok-clause-sound g c kept =
    record { opened = λ z d. returns-in-Ok-clause-rows g c kept (book_in z d (state g.S.Store c.args.connection).now) }

pub returns-in-Ok-clause-found_ok : goal.returns-in-Ok-clause-found_ok
returns-in-Ok-clause-found_ok g c kept =
    finds_opened c.args.zone c.args.default (state g.S.Store c.args.connection) (state g.S.Store c.open_store.new.connection) (c.in-Ok.ensures.exact kept.clean) c.trees_have_one_schema.ensures kept

pub returns-in-Err-clause-rows_err : goal.returns-in-Err-clause-rows_err
returns-in-Err-clause-rows_err g c clean H has =
    refuses c.args.zone c.args.default (state g.S.Store c.args.connection) (state g.S.Store c.open_store.new.connection) c.in-Err.fault (c.in-Err.ensures.exact_err clean) c.books_are_right.ensures H has

pub returns-in-Err-clause-found_err : goal.returns-in-Err-clause-found_err
returns-in-Err-clause-found_err g c clean b has =
    finds_refused c.args.zone c.args.default (state g.S.Store c.args.connection) (state g.S.Store c.open_store.new.connection) c.in-Err.fault (c.in-Err.ensures.exact_err clean) c.trees_have_one_schema.ensures b has

pub returns-in-Err-clause-same_err : goal.returns-in-Err-clause-same_err
returns-in-Err-clause-same_err g c clean is_open = same_refused (state g.S.Store c.args.connection) (state g.S.Store c.open_store.new.connection) c.in-Err.fault (IsFound g.S.Store c.args.zone c.args.default c.args.connection c.open_store.new.connection) (c.in-Err.ensures.refuses clean) is_open

pub returns-in-Err-clause-spares_err : goal.returns-in-Err-clause-spares_err
returns-in-Err-clause-spares_err g c clean = spares_refused (state g.S.Store c.args.connection) (state g.S.Store c.open_store.new.connection) c.in-Err.fault (IsFound g.S.Store c.args.zone c.args.default c.args.connection c.open_store.new.connection) (c.in-Err.ensures.refuses clean)

pub returns-in-Err-clause-crash_err : goal.returns-in-Err-clause-crash_err
returns-in-Err-clause-crash_err g c clean s rule has =
    leaves_refused c.args.zone c.args.default (state g.S.Store c.args.connection) (state g.S.Store c.open_store.new.connection) c.in-Err.fault s rule (c.in-Err.ensures.exact_err clean s rule has)

pub returns-in-Err-clause-err : goal.returns-in-Err-clause-err
returns-in-Err-clause-err g c clean autocommit = c.in-Err.ensures.refuses clean

pub returns-in-Err-clause-exact_err : goal.returns-in-Err-clause-exact_err
returns-in-Err-clause-exact_err g c clean autocommit s rule has = c.in-Err.ensures.exact_err clean s rule has
