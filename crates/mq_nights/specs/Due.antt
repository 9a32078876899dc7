-- Which days are due to be forgotten.
use Rattle.std.specs.Prelude.{◌≡◌, ℕ, Option, Some, None, ◌+◌, ◌-◌, max, min, nat_lt, if◌then◌else◌}
use Rattle.mq_request.specs.declared.bounds.TheConstants.{FIRST_MOMENT}
use Rattle.mq_ledger.specs.Day.{Days, day_of}
use Rattle.mq_ledger.specs.Legal.{Book}
use Rattle.mq_store.specs.Days.{AreReservedDays}
use Rattle.mq_store.specs.TransactionDays.{AreTransactionDays}
use Rattle.mq_store.specs.declared.days.ReservedDays.{ReservedDays}
use Rattle.mq_store.specs.declared.transaction_days.TransactionDays.{TransactionDays}
use Rattle.mq_nights.specs.declared.due.DueDays.{DueDays}
use Rattle.mq_nights.specs.declared.due.DueDays.TheVariants.{Nothing, NoneBefore, Before}

-- the day that it was three hours ago, and none before the first: so a day begins three hours after midnight, mostly at 03:00
abbrev pub night_of : Days → ℕ → ℕ
night_of zone moment = day_of zone (max (moment - 10800) FIRST_MOMENT)

-- the first day that is kept: so many days before the earlier one of the clock's and the newest
abbrev pub first_kept : ℕ → ℕ → ℕ → ℕ
first_kept keep night newest = min night newest - keep

-- the days before the first that is kept, where the oldest is one of them
abbrev pub due_by : ℕ → ℕ → ℕ → ℕ → DueDays
due_by keep night oldest newest =
    if nat_lt oldest (first_kept keep night newest)
    then Before (first_kept keep night newest)
    else NoneBefore (first_kept keep night newest)

-- so it is of the days up to the one after the clock's; where there is none, nothing is due
abbrev pub what_is_due : ℕ → ℕ → Option TransactionDays → DueDays
what_is_due keep night (Some days) = due_by keep night days.oldest days.newest
what_is_due keep night None = Nothing

-- this is due of a ledger that means this book, at this moment: no day after the next one counts
pub record IsDue (keep moment : ℕ) (b : Book) (is : DueDays) : Type 0 where
  pub days : Option TransactionDays
  pub are_days : AreTransactionDays (day_of b.zone) (night_of b.zone moment + 1) b.history days
  pub due : is ≡ what_is_due keep (night_of b.zone moment) days

-- the newest day with a reserve, where there is a day or more between it and the night's
abbrev pub day_ahead : ℕ → Option ReservedDays → Option ℕ
day_ahead night None = None
day_ahead night (Some days) = if nat_lt (night + 1) days.newest then Some days.newest else None

-- so it is of a ledger that means this book, at this moment
pub record IsAhead (moment : ℕ) (b : Book) (day : Option ℕ) : Type 0 where
  pub reserved : Option ReservedDays
  pub are_days : AreReservedDays (day_of b.zone) b.history reserved
  pub is : day ≡ day_ahead (night_of b.zone moment) reserved
