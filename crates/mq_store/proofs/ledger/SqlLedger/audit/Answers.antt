use Rattle.mq_store.proofs.Words.{state}
use Rattle.mq_store.specs.Soundness.{book_in}
use Rattle.mq_store.proofs.ledger.SqlLedger.audit.Goals as goal

pub returns-in-Ok-clause-sound : goal.returns-in-Ok-clause-sound
returns-in-Ok-clause-sound g c = rw (← c.self.view_is) (λ kept sound.
    let l = c.self.inside in
    let old = state g.S.Store l.connection in
    c.books_are_right.ensures (book_in l.zone l.default old.now) sound.tables old.now c.in-Ok.audit sound.legal sound.holds sound.rows (c.in-Ok.ensures.audited kept.clean))
