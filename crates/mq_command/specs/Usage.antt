-- What asking for what a login used on a day leads to, and on the days before it.
use Rattle.std.specs.Prelude.{◌≡◌, ◌<◌, ◌+◌, ◌-◌, ◌==◌, ℕ, List, Bool, true, false, not, Option, None, Some, Result, Ok, Err, min}
use Rattle.mq_request.specs.declared.message.Request.TheVariants as asks
use Rattle.mq_request.specs.declared.message.Reply.{Reply}
use Rattle.mq_request.specs.declared.message.Reply.TheVariants as says
use Rattle.mq_command.specs.Asking.{Asks, IsAnswered}
use Rattle.mq_command.specs.declared.usage.DayUsage.{DayUsage}
use Rattle.mq_command.specs.declared.look_back.SoughtDay.{SoughtDay}
use Rattle.mq_command.specs.declared.look_back.SoughtDay.TheVariants.{Use, Limit}
use Rattle.mq_command.specs.declared.ask.NoAnswer.{NoAnswer}
use Rattle.mq_command.specs.declared.allow.Setter.{Setter}
use Rattle.mq_command.specs.declared.order.OrderFault.{OrderFault}
use Rattle.mq_command.specs.declared.order.OrderFault.TheVariants.{Unanswered}
use Rattle.mq_link.specs.declared.link.ReportedExchange.{ReportedExchange}

-- the reply says that so much is used, settled and reserved, under this limit
abbrev pub IsUsed : Reply → DayUsage → Type 0
IsUsed reply usage =
    (login : List ℕ) × (day settled reserved : ℕ) × (reply ≡ says.Usage login day settled reserved usage.cap)
    × (usage.used ≡ settled + reserved)

-- What asking for what a login used on a day leads to.
abbrev pub AsksUsed : List ℕ → ℕ → Option (List ReportedExchange) → Option (List ReportedExchange) → Result DayUsage NoAnswer → Type 0
AsksUsed login day old new (Ok usage) =
    (reply : Reply) × IsAnswered (asks.Usage login day) reply old new × IsUsed reply usage
AsksUsed login day old new (Err fault) = Asks (asks.Usage login day) old new (Err fault)

-- what the login used wasn't answered
abbrev pub FailsToAsk : Setter → ℕ → Option (List ReportedExchange) → Option (List ReportedExchange) → OrderFault → Type 0
FailsToAsk setter day old new fault =
    (cause : NoAnswer) × AsksUsed setter.login day old new (Err cause) × (fault ≡ Unanswered cause)

-- the server answered what the login used and its limit, and this followed
abbrev pub ByUsage : Setter → ℕ → Option (List ReportedExchange) → (DayUsage → Option (List ReportedExchange) → Type 0) → Type 0
ByUsage setter day old Then =
    (usage : DayUsage) × (asked : Option (List ReportedExchange)) × AsksUsed setter.login day old asked (Ok usage) × Then usage asked

-- whether a day is one that is sought: one on which something is used, or one whose limit isn't 0
abbrev pub is_sought : SoughtDay → DayUsage → Bool
is_sought Use usage = not (usage.used == 0)
is_sought Limit usage = not (usage.cap == 0)

-- so many days were asked for in turn, from this one back, and none is one that is sought
pub data AreOthers (sought : SoughtDay) (login : List ℕ) (day : ℕ) (start : Option (List ReportedExchange)) : ℕ → Option (List ReportedExchange) → Type 0 where
  no_day : AreOthers sought login day start 0 start
  other_day : (count : ℕ) (mid new : Option (List ReportedExchange)) (usage : DayUsage) → AreOthers sought login day start count mid
      → AsksUsed login (day - count) mid new (Ok usage) → is_sought sought usage ≡ false
      → AreOthers sought login day start (count + 1) new

-- What looking back from a day leads to, over so many days: the latest that is sought, if one is.
abbrev pub LooksBack : SoughtDay → List ℕ → ℕ → ℕ → Option (List ReportedExchange) → Option (List ReportedExchange) → Result (Option ℕ) NoAnswer → Type 0
LooksBack sought login day days old new (Ok (Some found)) =
    (count : ℕ) × (mid : Option (List ReportedExchange)) × (usage : DayUsage) × (count < days) × (found + count ≡ day)
    × AreOthers sought login day old count mid × AsksUsed login found mid new (Ok usage) × (is_sought sought usage ≡ true)
LooksBack sought login day days old new (Ok None) = AreOthers sought login day old (min days (day + 1)) new
LooksBack sought login day days old new (Err fault) =
    (count : ℕ) × (mid : Option (List ReportedExchange)) × (count < min days (day + 1)) × AreOthers sought login day old count mid
    × AsksUsed login (day - count) mid new (Err fault)
