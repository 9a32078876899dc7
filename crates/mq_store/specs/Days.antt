-- On which days something was reserved.
use Rattle.std.specs.Prelude.{◌≡◌, ℕ, List, [], Option, Some, None}
use Rattle.mq_ledger.specs.declared.entry.Entry.{Entry}
use Rattle.mq_rows.specs.declared.record.UsageRecord.{UsageRecord}
use Rattle.mq_rows.specs.Days.{IsOldest, IsNewest, IsUnreserved, IsFirstReserved, IsLastReserved}
use Rattle.mq_store.specs.declared.days.ReservedDays.{ReservedDays}

-- the earliest day of these rows and the latest; none where there is no row
abbrev pub AreDaysOf : List UsageRecord → Option ReservedDays → Type 0
AreDaysOf rows None = rows ≡ []
AreDaysOf rows (Some days) = IsOldest rows (Some days.oldest) × IsNewest rows (Some days.newest)

-- the first day on which a reserve was granted and the last; none where none was
abbrev pub AreReservedDays : (ℕ → ℕ) → List Entry → Option ReservedDays → Type 0
AreReservedDays day H None = IsUnreserved day H
AreReservedDays day H (Some days) =
    IsFirstReserved day H (Some days.oldest) × IsLastReserved day H (Some days.newest)
