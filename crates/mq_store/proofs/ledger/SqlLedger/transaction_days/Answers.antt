use Rattle.mq_store.proofs.Words.{day_of, state}
use Rattle.mq_store.specs.Soundness.{book_in}
use Rattle.mq_store.proofs.Begun.{begun}
use Rattle.mq_store.proofs.Sound.{sound_still}
use Rattle.mq_store.proofs.ledger.SqlLedger.transaction_days.Goals as goal

pub returns-in-Ok-clause-days : goal.returns-in-Ok-clause-days
returns-in-Ok-clause-days g c = rw (← c.self.view_is) (λ kept sound.
    let book = book_in c.self.inside.zone c.self.inside.default (state g.S.Store c.self.inside.connection).now in
    begun (day_of c.self.inside.zone) book.history sound.tables.transactions sound.rows.transactions c.args.until c.in-Ok.days
    (c.in-Ok.ensures.found kept.clean sound.tables sound.holds))

pub returns-in-Ok-clause-sound : goal.returns-in-Ok-clause-sound
returns-in-Ok-clause-sound g c = rw (← c.self.view_is) (λ kept sound.
    sound_still c.self.inside.zone c.self.inside.default (state g.S.Store c.self.inside.connection) (state g.S.Store c.days_until_in_store.new.connection) sound kept ((c.days_until_in_store.ensures.spares kept.clean).now kept.is_open))
