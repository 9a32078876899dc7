-- What setting the limits of a day and of each later day leads to, by what is used on the day.
use Rattle.std.specs.Prelude.{◌≡◌, ◌⊎◌, ◌<◌, ◌+◌, ◌*◌, ◌++◌, ℕ, zero, suc, List, [], ◌∷◌, Option}
use Rattle.std.specs.Prelude.{Result, Ok, Err, min, codes}
use Rattle.std.specs.Fmt.{decimal}
use Rattle.mq_request.specs.Escaped.{escaped}
use Rattle.mq_request.specs.Range.{IsHost, IsRun, IsLogin}
use Rattle.mq_request.specs.declared.message.Request.{Request}
use Rattle.mq_request.specs.declared.message.Request.TheVariants as asks
use Rattle.mq_command.specs.Orders.{OrdersFresh}
use Rattle.mq_command.specs.declared.allow.Setter.{Setter}
use Rattle.mq_command.specs.declared.order.OrderFault.{OrderFault}
use Rattle.mq_command.specs.declared.order.OrderFault.TheVariants.{Over}
use Rattle.mq_link.specs.declared.link.ReportedExchange.{ReportedExchange}

-- host, run and login are in range, so that a limit can carry them
pub record IsSetter (setter : Setter) : Type 0 where
  pub host : IsHost setter.host
  pub run : IsRun setter.run
  pub login : IsLogin setter.login

-- the limit of a login from a day on, under a number of the run
abbrev pub limit_of : Setter → ℕ → ℕ → ℕ → Request
limit_of setter number day cap =
    asks.Limit (record { host = setter.host; run = setter.run; number = number }) day cap setter.login

-- the room that is added after so many refusals, which grows to twice as much each time
abbrev pub room : ℕ → ℕ
room zero = 0
room (suc refused) = min (room refused * 2 + 8) 1000000

-- the limit of a day: what is used and so many more, with room, and never above the most
abbrev pub allowed : ℕ → ℕ → ℕ → ℕ → ℕ
allowed most used more room = min (used + more + room) most

-- so many limits of a day were sent, each of what was used then, and refused since more is used on that day by now
pub data AreRefused (setter : Setter) (day most more first : ℕ) (start : Option (List ReportedExchange))
    : ℕ → ℕ → Option (List ReportedExchange) → Type 0 where
  no_limit : AreRefused setter day most more first start 0 first start
  limit : (refused used now : ℕ) (mid new : Option (List ReportedExchange))
      → AreRefused setter day most more first start refused used mid
      → OrdersFresh (limit_of setter (refused + 1) day (allowed most used more (room refused))) mid new (Err (Over day now))
      → AreRefused setter day most more first start (refused + 1) now new

-- What sending the limit of a day leads to: the limit, where it is set.
abbrev pub SetsTo : Setter → ℕ → ℕ → ℕ → Option (List ReportedExchange) → Option (List ReportedExchange) → Result ℕ OrderFault → Type 0
SetsTo setter number day cap old new (Ok set) = OrdersFresh (limit_of setter number day cap) old new (Ok tt) × (set ≡ cap)
SetsTo setter number day cap old new (Err fault) = OrdersFresh (limit_of setter number day cap) old new (Err fault)

-- more is used on that very day than the limit would allow
abbrev pub IsOver : ℕ → Result ℕ OrderFault → Type 0
IsOver day (Err (Over over used)) = over ≡ day
IsOver day _ = ⊥

-- What setting the limit of a day to what is used and so many more leads to, with none above the most. It is sent again
-- while more is used on that day, 18 times in all; where more is used on another day, that ends it.
abbrev pub SetsAbove : Setter → ℕ → ℕ → ℕ → ℕ → Option (List ReportedExchange) → Option (List ReportedExchange) → Result ℕ OrderFault → Type 0
SetsAbove setter day most more first old new ended =
    (refused used : ℕ) × (mid : Option (List ReportedExchange)) × (refused < 18)
    × AreRefused setter day most more first old refused used mid
    × SetsTo setter (refused + 1) day (allowed most used more (room refused)) mid new ended
    × (IsOver day ended → refused ≡ 17)

-- What setting the limits of a day and of each later day leads to: the limit of the day, where both are set.
abbrev pub SetsBoth : Setter → ℕ → ℕ → ℕ → ℕ → Option (List ReportedExchange) → Option (List ReportedExchange) → Result ℕ OrderFault → Type 0
SetsBoth setter day most more used old new (Ok cap) =
    (set : Option (List ReportedExchange)) × SetsAbove setter day most more used old set (Ok cap)
    × OrdersFresh (limit_of setter 19 (day + 1) more) set new (Ok tt)
SetsBoth setter day most more used old new (Err fault) =
    SetsAbove setter day most more used old new (Err fault)
    ⊎ ((cap : ℕ) × (set : Option (List ReportedExchange)) × SetsAbove setter day most more used old set (Ok cap)
    × OrdersFresh (limit_of setter 19 (day + 1) more) set new (Err fault))

-- a line of how much a login used, or may use, on a day
abbrev pub day_line : List ℕ → List ℕ → List ℕ → ℕ → ℕ → List ℕ
day_line begin login middle amount day =
    begin ++ escaped login ++ middle ++ decimal amount ++ codes " on day " ++ decimal day ++ 10 ∷ []

-- what `resume` prints where it is done
abbrev pub resumed_line : List ℕ → ℕ → ℕ → List ℕ
resumed_line login cap day = day_line (codes "resumed: ") login (codes " may use ") cap day
