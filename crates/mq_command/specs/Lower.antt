-- What looking for limits of later days leads to that are below the one which a login was just given.
use Rattle.std.specs.Prelude.{◌≡◌, ◌≢◌, ◌⊎◌, ◌<◌, ◌≤◌, ◌+◌, ℕ, List, Option, None, Some, Result, Ok, Err}
use Rattle.mq_request.specs.declared.bounds.TheConstants.{LAST_DAY}
use Rattle.mq_link.specs.declared.link.ReportedExchange.{ReportedExchange}
use Rattle.mq_command.specs.Usage.{AsksUsed}
use Rattle.mq_command.specs.declared.ask.NoAnswer.{NoAnswer}
use Rattle.mq_command.specs.declared.later.LaterLimit.{LaterLimit}
use Rattle.mq_command.specs.declared.usage.DayUsage.{DayUsage}

-- what is found: the first limit that is lower, or none, or why that isn't known
abbrev pub FoundLower : Type 0
FoundLower = Result (Option LaterLimit) NoAnswer

-- What looking at a later day leads to: its limit is below the least that the login is to have, or it isn't, or no answer comes.
abbrev pub LooksAt : List ℕ → ℕ → ℕ → Option (List ReportedExchange) → Option (List ReportedExchange) → FoundLower → Type 0
LooksAt login day least old new (Ok None) = (usage : DayUsage) × AsksUsed login day old new (Ok usage) × (least ≤ usage.cap)
LooksAt login day least old new (Ok (Some lower)) =
    (usage : DayUsage) × AsksUsed login day old new (Ok usage) × (usage.cap < least) × (lower ≡ record { day = day; cap = usage.cap })
LooksAt login day least old new (Err fault) = AsksUsed login day old new (Err fault)

-- so many days were looked at in turn from this one on, and the limit of none is below that
pub data AreNotLower (login : List ℕ) (first least : ℕ) (start : Option (List ReportedExchange)) : ℕ → Option (List ReportedExchange) → Type 0 where
  none_looked_at : AreNotLower login first least start 0 start
  not_lower : (count : ℕ) (mid new : Option (List ReportedExchange)) → AreNotLower login first least start count mid
      → LooksAt login (first + count) least mid new (Ok None)
      → AreNotLower login first least start (count + 1) new

-- What looking at the days after the next one leads to, up to 399 of them, and then at the last day of all, where it isn't one of
-- them: the first limit below the least that the login is to have, or none.
abbrev pub FindsLower : List ℕ → ℕ → ℕ → Option (List ReportedExchange) → Option (List ReportedExchange) → FoundLower → Type 0
FindsLower login day least old new ended =
    (count : ℕ) × (mid : Option (List ReportedExchange)) × AreNotLower login (day + 2) least old count mid
    × (((count ≡ 399) × LooksAt login LAST_DAY least mid new ended)
    ⊎ (((LAST_DAY < day + 2 + count) × (ended ≡ Ok None) × (new ≡ mid))
    ⊎ ((count < 399) × (ended ≢ Ok None) × LooksAt login (day + 2 + count) least mid new ended)))
