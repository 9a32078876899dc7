-- What looking for limits of later days leads to, after a login was stopped from a day on.
use Rattle.std.specs.Prelude.{◌≡◌, ◌≢◌, ◌⊎◌, ◌<◌, ◌≤◌, ◌+◌, ℕ, List, Bool, true, false, Option, None, Some, Result, Ok, Err, nat_le, if◌then◌else◌}
use Rattle.mq_request.specs.declared.bounds.TheConstants.{LAST_DAY}
use Rattle.mq_link.specs.declared.link.ReportedExchange.{ReportedExchange}
use Rattle.mq_command.specs.Allowing.{limit_of}
use Rattle.mq_command.specs.Orders.{OrdersFresh}
use Rattle.mq_command.specs.Usage.{AsksUsed, FailsToAsk}
use Rattle.mq_command.specs.declared.allow.Setter.{Setter}
use Rattle.mq_command.specs.declared.hold.LaterUse.{LaterUse}
use Rattle.mq_command.specs.declared.later.LaterLimit.{LaterLimit}
use Rattle.mq_command.specs.declared.order.OrderFault.{OrderFault}
use Rattle.mq_command.specs.declared.usage.DayUsage.{DayUsage}

-- what a stopped login may have on a day
abbrev pub most_on : LaterUse → ℕ → ℕ
most_on later day = if nat_le day later.last then later.most else 0

-- the day's limit was answered, and is above this
abbrev pub HasLimit : Setter → ℕ → ℕ → Option (List ReportedExchange) → Option (List ReportedExchange) → LaterLimit → Type 0
HasLimit setter day most old new later =
    (usage : DayUsage) × AsksUsed setter.login day old new (Ok usage) × (most < usage.cap)
    × (later ≡ record { day = day; cap = usage.cap })

-- the day's limit was answered, and isn't above this
abbrev pub HasNoLimit : Setter → ℕ → ℕ → Option (List ReportedExchange) → Option (List ReportedExchange) → Type 0
HasNoLimit setter day most old new =
    (usage : DayUsage) × AsksUsed setter.login day old new (Ok usage) × (usage.cap ≤ most)

-- What looking at a later day leads to: its limit isn't above what the login may have, or it is, and where all are to be lowered, it
-- was set to that from that day on, under this number.
abbrev pub ClearsDay : Setter → ℕ → ℕ → ℕ → Bool → Option (List ReportedExchange) → Option (List ReportedExchange) → Result (Option LaterLimit) OrderFault → Type 0
ClearsDay setter number day most all old new (Ok None) =
    HasNoLimit setter day most old new
    ⊎ ((later : LaterLimit) × (asked : Option (List ReportedExchange)) × HasLimit setter day most old asked later × (all ≡ true)
    × OrdersFresh (limit_of setter number day most) asked new (Ok tt))
ClearsDay setter number day most all old new (Ok (Some later)) = HasLimit setter day most old new later × (all ≡ false)
ClearsDay setter number day most all old new (Err fault) =
    FailsToAsk setter day old new fault
    ⊎ ((later : LaterLimit) × (asked : Option (List ReportedExchange)) × HasLimit setter day most old asked later × (all ≡ true)
    × OrdersFresh (limit_of setter number day most) asked new (Err fault))

-- so many days were looked at in turn from this one on, and no limit stays above what the login may have; the numbers begin with
-- 2020
pub data AreCleared (setter : Setter) (all : Bool) (first : ℕ) (may : LaterUse) (start : Option (List ReportedExchange))
    : ℕ → Option (List ReportedExchange) → Type 0 where
  no_day : AreCleared setter all first may start 0 start
  cleared : (count : ℕ) (mid new : Option (List ReportedExchange)) → AreCleared setter all first may start count mid
      → ClearsDay setter (2020 + count) (first + count) (most_on may (first + count)) all mid new (Ok None)
      → AreCleared setter all first may start (count + 1) new

-- What looking at the days after the next one leads to, up to 399 of them, and then at the last day of all, where it isn't one of
-- them: the first limit that stays in force, or none. That of the last day is never lowered, since it may have been set from an
-- earlier one.
abbrev pub ClearsLater : Setter → ℕ → LaterUse → Bool → Option (List ReportedExchange) → Option (List ReportedExchange) → Result (Option LaterLimit) OrderFault → Type 0
ClearsLater setter day may all old new ended =
    (count : ℕ) × (mid : Option (List ReportedExchange)) × AreCleared setter all (day + 2) may old count mid
    × (((count ≡ 399) × ClearsDay setter 2419 LAST_DAY (most_on may LAST_DAY) false mid new ended)
    ⊎ (((LAST_DAY < day + 2 + count) × (ended ≡ Ok None) × (new ≡ mid))
    ⊎ ((count < 399) × (ended ≢ Ok None)
    × ClearsDay setter (2020 + count) (day + 2 + count) (most_on may (day + 2 + count)) all mid new ended)))
