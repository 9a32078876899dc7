-- On which days transactions began, up to a day.
use Rattle.std.specs.Prelude.{◌≡◌, ◌≤◌, ℕ, List, Option, Some, None}
use Rattle.mq_ledger.specs.History.{Transaction, named, moment_of}
use Rattle.mq_ledger.specs.declared.entry.Entry.{Entry}
use Rattle.mq_rows.specs.declared.record.TransactionRecord.{TransactionRecord}
use Rattle.mq_tables.specs.TransactionDays.{IsOldestUntil, IsNewestUntil}
use Rattle.mq_store.specs.declared.transaction_days.TransactionDays.{TransactionDays}

-- of the days of these rows, up to that day, the earliest and the latest; none where there is none
abbrev pub AreDaysUntil : ℕ → List TransactionRecord → Option TransactionDays → Type 0
AreDaysUntil until rows None = IsOldestUntil until rows None
AreDaysUntil until rows (Some days) =
    IsOldestUntil until rows (Some days.oldest) × IsNewestUntil until rows (Some days.newest)

-- a transaction of the history is of that day: that of the first entry about it
abbrev pub IsBegunOn : (ℕ → ℕ) → List Entry → ℕ → Type 0
IsBegunOn day H d = (t : Transaction) × (e : Entry) × (named H t ≡ Some e) × (day (moment_of e.request) ≡ d)

-- of the days up to that one, the first on which a transaction began and the last; none where none did
abbrev pub AreTransactionDays : (ℕ → ℕ) → ℕ → List Entry → Option TransactionDays → Type 0
AreTransactionDays day until H None = (d : ℕ) → IsBegunOn day H d → d ≤ until → ⊥
AreTransactionDays day until H (Some days) =
    IsBegunOn day H days.oldest × IsBegunOn day H days.newest × (days.newest ≤ until)
    × ((d : ℕ) → IsBegunOn day H d → d ≤ until → (days.oldest ≤ d) × (d ≤ days.newest))
