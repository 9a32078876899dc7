-- Which day counts as today: that of the server's clock; but while this lies before all days of the ledger, so many days more.
use Rattle.std.specs.Prelude.{ℕ, ◌+◌, ◌-◌, nat_lt, if◌then◌else◌, unwrap_or, List, [], ◌∷◌, Option, Some, None}
use Rattle.mq_watch.specs.Hours.{clock_day}
use Rattle.mq_watch.specs.declared.calendar.Calendar.{Calendar}
use Rattle.mq_watch.specs.declared.calendar.LedgerDays.{LedgerDays}
use Rattle.mq_watch.specs.declared.calendar.ServerTime.{ServerTime}

-- the last day of a ledger was today, until the server's clock says another one
abbrev pub calendar_from : LedgerDays → Calendar
calendar_from days = record { first = days.oldest; latest = days.newest; lag = None }

-- by how many days a clock is slow that shows this day, before all of the ledger: as before, or by those up to the latest today
abbrev pub lag_at : Calendar → ℕ → ℕ
lag_at c day = unwrap_or c.lag (c.latest - day)

-- today where the clock shows this day
abbrev pub today_of : Calendar → ℕ → ℕ
today_of c day = if nat_lt day c.first then day + lag_at c day else day

-- what is kept of a clock that showed this day: while it is behind, by how much
abbrev pub calendar_after : Calendar → ℕ → Calendar
calendar_after c day = if nat_lt day c.first then record c { lag = Some (lag_at c day) } else record c { latest = day; lag = None }

-- and of one that showed these days in turn
abbrev pub calendar_after_all : Calendar → List ℕ → Calendar
calendar_after_all c [] = c
calendar_after_all c (day ∷ days) = calendar_after_all (calendar_after c day) days

-- the days of a ledger as the server starts; one that has none begins with the clock's
abbrev pub days_at : (ℕ → ℕ) → Option LedgerDays → Option ℕ → LedgerDays
days_at day (Some days) now = days
days_at day None (Some millis) = record { oldest = clock_day day millis; newest = clock_day day millis }
days_at day None None = record { oldest = 0; newest = 0 }

-- the server's time where its clock shows so many milliseconds, or can't be read
abbrev pub time_at : (ℕ → ℕ) → Calendar → Option ℕ → Option ServerTime
time_at day c (Some millis) = Some (record { millis = millis; today = today_of c (clock_day day millis) })
time_at day c None = None

-- what is kept of the clock then
abbrev pub calendar_at : (ℕ → ℕ) → Calendar → Option ℕ → Calendar
calendar_at day c (Some millis) = calendar_after c (clock_day day millis)
calendar_at day c None = c

-- the milliseconds of the server's time, where it is known
abbrev pub millis_in : Option ServerTime → Option ℕ
millis_in (Some now) = Some now.millis
millis_in None = None
