-- What of a limit each of several servers gets, and how a server's default is found.
use Rattle.std.specs.Prelude.{◌≡◌, ◌+◌, ◌-◌, ◌*◌, ◌/◌, ◌==◌, ◌++◌, ◌∷◌, [], ℕ, zero, suc, List, Option, None, Some, Result, Ok, Err, min, codes, if◌then◌else◌}
use Rattle.std.specs.Fmt.{decimal}
use Rattle.mq_request.specs.declared.bounds.TheConstants.{AMOUNT_LIMIT}
use Rattle.mq_request.specs.declared.message.Request.{Request}
use Rattle.mq_request.specs.declared.message.Request.TheVariants as asks
use Rattle.mq_command.specs.Usage.{AsksUsed}
use Rattle.mq_command.specs.declared.ask.NoAnswer.{NoAnswer}
use Rattle.mq_command.specs.declared.order.OrderFault.{OrderFault}
use Rattle.mq_command.specs.declared.order.OrderFault.TheVariants.{Unanswered}
use Rattle.mq_command.specs.declared.outcome.SetEnd.{SetEnd}
use Rattle.mq_command.specs.declared.outcome.SetEnd.TheVariants.{Set, Refused, Unknown}
use Rattle.mq_command.specs.declared.usage.DayUsage.{DayUsage}
use Rattle.mq_link.specs.declared.link.ReportedExchange.{ReportedExchange}

-- A server's share of a number that is the first one's: by its default beside the first's, rounded up, and never above the
-- most. Where the first's default is 0 it is the number itself.
abbrev pub share_of : ℕ → ℕ → ℕ → ℕ
share_of number default first =
    if first == 0 then number else min ((number * default + (first - 1)) / first) AMOUNT_LIMIT

-- the login of one byte 0, which smtpd reports of nobody: its limit is the default
abbrev pub unlimited_login : List ℕ
unlimited_login = 0 ∷ []

-- What asking for a server's default leads to: the limit of that login.
abbrev pub AsksDefault : ℕ → Option (List ReportedExchange) → Option (List ReportedExchange) → Result ℕ NoAnswer → Type 0
AsksDefault day old new (Ok default) =
    (usage : DayUsage) × AsksUsed unlimited_login day old new (Ok usage) × (default ≡ usage.cap)
AsksDefault day old new (Err fault) = AsksUsed unlimited_login day old new (Err fault)

-- the number of a limit
abbrev pub cap_of : Request → ℕ
cap_of (asks.Limit id from_day cap login) = cap
cap_of request = 0

-- what is printed of a limit that is set at one of several servers
abbrev pub set_line : ℕ → List ℕ → List ℕ
set_line cap server = codes "set " ++ decimal cap ++ codes " at " ++ server ++ 10 ∷ []

-- how it ends where a limit is set, by the status of printing that
abbrev pub printed_end : ℕ → SetEnd
printed_end zero = Set
printed_end (suc status) = Unknown

-- how it ends where it isn't known to be set: the server refuses it, unless it gave no answer
abbrev pub failed_end : OrderFault → SetEnd
failed_end (Unanswered cause) = Unknown
failed_end fault = Refused

-- how sending a limit ends, by what came of it and the status of printing that
abbrev pub set_end : Result (Unit {0}) OrderFault → ℕ → SetEnd
set_end (Ok _) status = printed_end status
set_end (Err fault) status = failed_end fault

-- after which day limits hold, if not on each
abbrev pub after_text : Option ℕ → List ℕ
after_text None = []
after_text (Some day) = codes " after day " ++ decimal day

-- what is printed of the limits of several servers together
abbrev pub sum_line : ℕ → Option ℕ → List ℕ
sum_line sum after = codes "in all at most " ++ decimal sum ++ codes " a day" ++ after_text after ++ 10 ∷ []
