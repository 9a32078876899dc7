-- What the limits come to of a login that is stopped: what it used on a day, or on a later one.
use Rattle.std.specs.Prelude.{◌≡◌, ◌⊎◌, ◌<◌, ◌≤◌, ◌+◌, ◌*◌, ◌-◌, ◌==◌, ℕ, true, List, Option, None, Some, Result, Ok, Err, min, max, nat_lt, ⊤, not, if◌then◌else◌}
use Rattle.mq_request.specs.declared.bounds.TheConstants.{LAST_DAY}
use Rattle.mq_link.specs.declared.link.ReportedExchange.{ReportedExchange}
use Rattle.mq_command.specs.Allowing.{allowed, limit_of}
use Rattle.mq_command.specs.Orders.{OrdersFresh}
use Rattle.mq_command.specs.Usage.{ByUsage, FailsToAsk}
use Rattle.mq_command.specs.declared.allow.Setter.{Setter}
use Rattle.mq_command.specs.declared.hold.AfterRefusal.{AfterRefusal}
use Rattle.mq_command.specs.declared.hold.AfterRefusal.TheVariants.{Again, Stays, Fails}
use Rattle.mq_command.specs.declared.hold.HeldLimit.{HeldLimit}
use Rattle.mq_command.specs.declared.hold.KnownUse.{KnownUse}
use Rattle.mq_command.specs.declared.hold.LaterUse.{LaterUse}
use Rattle.mq_command.specs.declared.order.OrderFault.{OrderFault}
use Rattle.mq_command.specs.declared.order.OrderFault.TheVariants.{Over}
use Rattle.mq_command.specs.declared.usage.DayUsage.{DayUsage}

-- what is known before the first limit is sent
abbrev pub begin : ℕ → DayUsage → KnownUse
begin day usage = record { used = usage.used; room = 0; last = day }

-- The limit that is sent: what is used, with room, and never above the one that the login had.
abbrev pub held_cap : DayUsage → KnownUse → ℕ
held_cap usage known = allowed usage.cap known.used 0 known.room

-- What follows where a limit was refused, since more is used on some day. On the very day: it is sent again with what is used
-- by now, and with more room. On a later day: with what is used there and no more room; where the login had less than that, its
-- limit stays. No limit is refused by an earlier day.
abbrev pub after_refusal : ℕ → DayUsage → KnownUse → ℕ → ℕ → AfterRefusal
after_refusal day usage known over now =
    if over == day then Again (record { used = now; room = min (known.room * 2 + 8) 1000000; last = known.last })
    else (if nat_lt over day then Fails
    else (if nat_lt usage.cap now then Stays (record { cap = usage.cap; last = over - 1; is_more = true })
    else Again (record { used = now; room = known.room; last = over })))

-- so many limits of a day were sent and refused, and each time it was to be sent again
pub data AreRefusedAgain (setter : Setter) (first day : ℕ) (usage : DayUsage) (start : Option (List ReportedExchange))
    : ℕ → KnownUse → Option (List ReportedExchange) → Type 0 where
  none_sent : AreRefusedAgain setter first day usage start 0 (begin day usage) start
  one_refused : (refused : ℕ) (known next : KnownUse) (over now : ℕ) (mid new : Option (List ReportedExchange))
      → AreRefusedAgain setter first day usage start refused known mid
      → OrdersFresh (limit_of setter (first + refused) day (held_cap usage known)) mid new (Err (Over over now))
      → after_refusal day usage known over now ≡ Again next
      → AreRefusedAgain setter first day usage start (refused + 1) next new

-- the limit that is set, and the last day that it is right for: the day itself, or a later one on which so much is used
abbrev pub outcome : ℕ → DayUsage → KnownUse → HeldLimit
outcome day usage known =
    record { cap = held_cap usage known; last = known.last; is_more = not (known.last == day) }

-- where the limit is refused by this, it isn't sent again
abbrev pub EndsIt : ℕ → DayUsage → KnownUse → OrderFault → Type 0
EndsIt day usage known (Over over now) = after_refusal day usage known over now ≡ Fails
EndsIt day usage known _ = ⊤

-- What sending the last limit leads to: it is set, or refused by a later day, and the limit that the login had stays, or neither.
abbrev pub EndsHolding : Setter → ℕ → ℕ → DayUsage → ℕ → KnownUse → Option (List ReportedExchange) → Option (List ReportedExchange) → Result HeldLimit OrderFault → Type 0
EndsHolding setter first day usage refused known old new (Ok it) =
    (OrdersFresh (limit_of setter (first + refused) day (held_cap usage known)) old new (Ok tt) × (it ≡ outcome day usage known))
    ⊎ ((over now : ℕ) × (refused < 17)
    × OrdersFresh (limit_of setter (first + refused) day (held_cap usage known)) old new (Err (Over over now))
    × (after_refusal day usage known over now ≡ Stays it))
EndsHolding setter first day usage refused known old new (Err fault) =
    OrdersFresh (limit_of setter (first + refused) day (held_cap usage known)) old new (Err fault)
    × ((refused ≡ 17) ⊎ EndsIt day usage known fault)

-- What letting a login have nothing more on a day leads to, by what it used there. The limit is sent up to 18 times.
abbrev pub Holds : Setter → ℕ → ℕ → DayUsage → Option (List ReportedExchange) → Option (List ReportedExchange) → Result HeldLimit OrderFault → Type 0
Holds setter first day usage old new ended =
    (refused : ℕ) × (known : KnownUse) × (mid : Option (List ReportedExchange)) × (refused < 18)
    × AreRefusedAgain setter first day usage old refused known mid
    × EndsHolding setter first day usage refused known mid new ended

-- the same of a later day, where what it used is asked first
abbrev pub HoldsDay : Setter → ℕ → ℕ → Option (List ReportedExchange) → Option (List ReportedExchange) → Result HeldLimit OrderFault → Type 0
HoldsDay setter first day old new (Ok it) = ByUsage setter day old (λ usage asked. Holds setter first day usage asked new (Ok it))
HoldsDay setter first day old new (Err fault) =
    FailsToAsk setter day old new fault ⊎ ByUsage setter day old (λ usage asked. Holds setter first day usage asked new (Err fault))

-- a limit is refused since more is used on some day
abbrev pub IsOverSome : OrderFault → Type 0
IsOverSome (Over over used) = ⊤
IsOverSome _ = ⊥

-- the limit 0 from the day on that follows the last one on which the login may have something
abbrev pub NoMore : Setter → ℕ → LaterUse → Option (List ReportedExchange) → Option (List ReportedExchange) → Result (Unit {0}) OrderFault → Type 0
NoMore setter place later old new sent = OrdersFresh (limit_of setter (20 * place + 19) (later.last + 1) 0) old new sent

-- with this day's limit
abbrev pub with_day : LaterUse → HeldLimit → LaterUse
with_day later it = record { most = max later.most it.cap; last = it.last }

-- What going on from the last day on which the login may have something leads to: the limit 0 is set from the next day on, and
-- that is all; or it is refused since more is used then or later, and the next day's limit is what is used.
abbrev pub HoldsNext : Setter → ℕ → LaterUse → Option (List ReportedExchange) → Option (List ReportedExchange) → Result (Option LaterUse) OrderFault → Type 0
HoldsNext setter place later old new (Ok None) = NoMore setter place later old new (Ok tt)
HoldsNext setter place later old new (Ok (Some next)) =
    (over used : ℕ) × (mid : Option (List ReportedExchange)) × (it : HeldLimit) × NoMore setter place later old mid (Err (Over over used))
    × HoldsDay setter (20 * place + 21) (later.last + 1) mid new (Ok it) × (next ≡ with_day later it)
HoldsNext setter place later old new (Err fault) =
    (NoMore setter place later old new (Err fault) × (IsOverSome fault → ⊥))
    ⊎ ((over used : ℕ) × (mid : Option (List ReportedExchange)) × NoMore setter place later old mid (Err (Over over used))
    × HoldsDay setter (20 * place + 21) (later.last + 1) mid new (Err fault))

-- so many later days on which something is used were dealt with in turn
pub data AreHeld (setter : Setter) (day : ℕ) (start : Option (List ReportedExchange)) : ℕ → LaterUse → Option (List ReportedExchange) → Type 0 where
  no_later_day : AreHeld setter day start 0 (record { most = 0; last = day }) start
  later_day : (count : ℕ) (later next : LaterUse) (mid new : Option (List ReportedExchange)) → AreHeld setter day start count later mid
      → later.last < LAST_DAY → HoldsNext setter count later mid new (Ok (Some next))
      → AreHeld setter day start (count + 1) next new

-- What letting a login have nothing more on each day after this one leads to, but for what it used on up to 100 of them.
abbrev pub HoldsLater : Setter → ℕ → Option (List ReportedExchange) → Option (List ReportedExchange) → Result LaterUse OrderFault → Type 0
HoldsLater setter day old new (Ok later) =
    (count : ℕ) × (mid : Option (List ReportedExchange)) × (count ≤ 100) × AreHeld setter day old count later mid
    × (((LAST_DAY ≤ later.last) × (new ≡ mid)) ⊎ NoMore setter count later mid new (Ok tt))
HoldsLater setter day old new (Err fault) =
    (count : ℕ) × (later : LaterUse) × (mid : Option (List ReportedExchange)) × AreHeld setter day old count later mid
    × (((count < 100) × HoldsNext setter count later mid new (Err fault)) ⊎ ((count ≡ 100) × NoMore setter count later mid new (Err fault)))
