use Rattle.std.proofs.Common.{◌≡◌, sym, subst}
use Rattle.sqlite.specs.Effect.{Database}
use Rattle.sqlite.specs.Held.{state}
use Rattle.sqlite.specs.Steps.{over_memory}
use Rattle.mq_ledger.specs.Legal.{Book}
use Rattle.mq_store.specs.Renewing.{HasCarried}
use Rattle.mq_store.specs.Soundness.{HasKept, IsSound, book_in}
use Rattle.mq_ledger.specs.Day.{day_of}
use Rattle.mq_forget.specs.Remembered.{remembered}
use Rattle.mq_store.proofs.Beside.{carried_later, done_later, same_book}
use Rattle.mq_store.proofs.Sound.{book_had}
use Rattle.mq_nights.proofs.evening.renew.Goals as goal

pub returns-in-Ok-clause-under_way : goal.returns-in-Ok-clause-under_way
returns-in-Ok-clause-under_way g c = λ kept sound way kept_made.
    let l = c.args.ledger.now in
    let e = c.go_on.ensures in
    let m = c.go_on.new.self in
    let old = state g.S.Store l.connection in
    let new = state g.S.Store c.go_on.new.old.connection in
    let now : Book = book_in l.zone l.default old.now in
    let later : Book = book_in c.go_on.new.old.zone c.go_on.new.old.default new.now in
    let same : later ≡ now = same_book l.zone c.go_on.new.old.zone l.default c.go_on.new.old.default old.now new.now e.old_lent.0 e.old_lent.1 (e.old_same kept) in
    let after = c.in-Ok.ensures.renews kept kept_made now.history (book_had l.zone l.default old sound) (way (e.kept kept_made)) in
    let n : Database = (state g.N.Store m.made.connection).now in
    let s : Database = (state over_memory m.scratch.connection).now in
    carried_later m.day now later m.reached n s same (subst (λ D. HasCarried now.zone now.default D now.history m.reached n s) (sym e.lent.2) after)

pub returns-in-Ok-clause-heard : goal.returns-in-Ok-clause-heard
returns-in-Ok-clause-heard g c = λ kept sound.
    let l = c.args.ledger.now in
    let old = state g.S.Store l.connection in
    let now : Book = book_in l.zone l.default old.now in
    c.in-Ok.ensures.heard kept now.history (book_had l.zone l.default old sound)

pub returns-in-Ok-clause-through : goal.returns-in-Ok-clause-through
returns-in-Ok-clause-through g c = λ kept sound through way.
    let l = c.args.ledger.now in
    let e = c.go_on.ensures in
    let m = c.go_on.new.self in
    let old = state g.S.Store l.connection in
    let new = state g.S.Store c.go_on.new.old.connection in
    let made = state g.N.Store m.made.connection in
    let now : Book = book_in l.zone l.default old.now in
    let later : Book = book_in c.go_on.new.old.zone c.go_on.new.old.default new.now in
    let same : later ≡ now = same_book l.zone c.go_on.new.old.zone l.default c.go_on.new.old.default old.now new.now e.old_lent.0 e.old_lent.1 (e.old_same kept) in
    let both : HasKept made → IsSound later.zone later.default made × ((book_in later.zone later.default made.now).history ≡ remembered (day_of later.zone) m.day later.history) = λ kept_made.
    let all = c.in-Ok.ensures.remembered through kept kept_made sound (way (e.kept kept_made)) in
    done_later c.args.renewal.now.day m.day now later made same e.lent.2 (all.sound, all.history) in
    record {
      sound = λ kept_made. (both kept_made).0;
      history = λ kept_made. (both kept_made).1;
      whole = λ clean. c.in-Ok.ensures.crash_ok clean;
    }
