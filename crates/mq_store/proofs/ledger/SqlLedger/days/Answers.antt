use Rattle.std.proofs.Common.{List, None, Option, Some, ℕ}
use Rattle.mq_store.proofs.Words.{Entry, UsageRecord, day_of, state}
use Rattle.mq_rows.specs.Days.{IsOldest, IsNewest, IsFirstReserved, IsLastReserved}
use Rattle.mq_store.specs.declared.days.ReservedDays.{ReservedDays}
use Rattle.mq_store.specs.Days.{AreDaysOf, AreReservedDays}
use Rattle.mq_store.specs.Soundness.{book_in}
use Rattle.mq_store.proofs.Sound.{sound_still}
use Rattle.mq_store.proofs.ledger.SqlLedger.days.Goals as goal

-- the days of the rows are those on which something was reserved
reserved : (day : ℕ → ℕ) (H : List Entry) (rows : List UsageRecord) (days : Option ReservedDays) → ((oldest : Option ℕ) → IsOldest rows oldest → IsFirstReserved day H oldest)
    → ((newest : Option ℕ) → IsNewest rows newest → IsLastReserved day H newest) → AreDaysOf rows days → AreReservedDays day H days
reserved day H rows None first last none = first None none
reserved day H rows (Some days) first last it = (first (Some days.oldest) it.0, last (Some days.newest) it.1)

pub returns-in-Ok-clause-days : goal.returns-in-Ok-clause-days
returns-in-Ok-clause-days g c = rw (← c.self.view_is) (λ kept sound.
    let book = book_in c.self.inside.zone c.self.inside.default (state g.S.Store c.self.inside.connection).now in
    reserved (day_of c.self.inside.zone) book.history sound.tables.usage c.in-Ok.days
    (c.days_are_reserved.ensures.first (day_of c.self.inside.zone) book.history sound.tables.usage sound.rows.usage)
    (c.days_are_reserved.ensures.last (day_of c.self.inside.zone) book.history sound.tables.usage sound.rows.usage)
    (c.in-Ok.ensures.found kept.clean sound.tables sound.holds))

pub returns-in-Ok-clause-sound : goal.returns-in-Ok-clause-sound
returns-in-Ok-clause-sound g c = rw (← c.self.view_is) (λ kept sound.
    sound_still c.self.inside.zone c.self.inside.default (state g.S.Store c.self.inside.connection) (state g.S.Store c.days_in_store.new.connection) sound kept ((c.days_in_store.ensures.spares kept.clean).now kept.is_open))
