use Rattle.std.proofs.Common.{Some, ap}
use Rattle.mq_store.proofs.Words.{state}
use Rattle.mq_store.specs.Soundness.{book_in}
use Rattle.mq_store.proofs.Renewals.{renewed}
use Rattle.mq_store.proofs.Sound.{book_had, sound_still}
use Rattle.mq_store.proofs.renewal.Renewal.go_on.Goals as goal

pub returns-clause-remembered : goal.returns-clause-remembered
returns-clause-remembered g c = rw (← c.old.view_is, ← c.self.view_is) (λ through kept kept_made sound carried.
    let l = c.old.inside in
    let old = state g.T.Store l.connection in
    renewed l.zone l.default _ c.tables_mean_their_book.ensures old (state g.S.Store c.renew_store.new.into) kept_made
    (c.in-Ok.ensures.ends kept kept_made through (book_in l.zone l.default old.now).history (book_had l.zone l.default old sound) carried))

pub returns-clause-heard : goal.returns-clause-heard
returns-clause-heard g c = rw (← c.old.view_is) (λ kept H has. ap Some (c.in-Ok.ensures.counts kept H has))

pub returns-clause-old_sound : goal.returns-clause-old_sound
returns-clause-old_sound g c = rw (← c.old.view_is) (λ kept sound.
    sound_still c.old.inside.zone c.old.inside.default (state g.T.Store c.old.inside.connection) (state g.T.Store c.renew_store.new.from) sound kept (c.renew_store.ensures.from_same kept))

pub returns-in-Err-clause-old_sound : goal.returns-in-Err-clause-old_sound
returns-in-Err-clause-old_sound g c = rw (← c.old.view_is) (λ kept sound.
    sound_still c.old.inside.zone c.old.inside.default (state g.T.Store c.old.inside.connection) (state g.T.Store c.renew_store.new.from) sound kept (c.renew_store.ensures.from_same kept))
