-- Which replies answer which questions, and what they say.
use Rattle.mq_command.proofs.Words.{AnswersList, AnswersOrder, AnswersUsage, AsksPage, Err, IsAnswered, IsOrder, IsUsage, List, Ok, Option, OrderFault, Orders, PrintsRow, Reply, ReportFault, ReportedExchange, ReportsOne, Request, Result, Says, TakesPage, Unanswered, UsageRow, fits, inr, subst₂, true, ℕ, ◌≡◌}
use Rattle.mq_request.specs.declared.message.Request.TheVariants as asks
use Rattle.mq_request.specs.declared.message.Reply.TheVariants as says
use Rattle.mq_command.specs.declared.report.ReportFault.TheVariants as fault

pub to_order : (request : Request) (reply : Reply) → IsOrder request → fits request reply ≡ true → AnswersOrder request reply
to_order (asks.Limit id from_day cap login) (says.LimitSet other) is answers = tt
to_order (asks.Limit id from_day cap login) (says.Over other day used) is answers = tt
to_order (asks.Limit id from_day cap login) (says.Conflict other) is answers = tt
to_order (asks.Limit id from_day cap login) (says.Old other) is answers = tt
to_order (asks.Limit id from_day cap login) reply is answers = cc
to_order (asks.Retire id) (says.Retired other) is answers = tt
to_order (asks.Retire id) (says.Conflict other) is answers = tt
to_order (asks.Retire id) (says.Old other) is answers = tt
to_order (asks.Retire id) reply is answers = cc
to_order request reply is answers = absurd is

pub to_usage : (name : List ℕ) (on : ℕ) (reply : Reply) → fits (asks.Usage name on) reply ≡ true → AnswersUsage reply
to_usage name on (says.Usage login day settled reserved cap) answers = tt
to_usage name on reply answers = cc

pub to_list : (on : ℕ) (after : List ℕ) (reply : Reply) → fits (asks.List on after) reply ≡ true → AnswersList reply
to_list on after (says.List day rows) answers = tt
to_list on after reply answers = cc

-- an order that was answered
pub order_answered : (request : Request) (reply : Reply) (told told' : Option (List ReportedExchange)) (ended : Result (Unit {0}) OrderFault)
    → IsAnswered request reply told told' → Says request reply ended → Orders request told told' ended
order_answered request reply told told' (Err (Unanswered cause)) answered never = absurd never
order_answered request reply told told' ended answered says = (reply, answered, says)

-- a page that was answered and taken, or not taken
pub page_taken : (day : ℕ) (asked after : List ℕ) (reply : Reply) (told told' : Option (List ReportedExchange)) (ended : Result (List UsageRow) ReportFault)
    → asked ≡ after → IsAnswered (asks.List day asked) reply told told' → TakesPage day after reply ended → AsksPage day after told told' ended
page_taken day asked after reply told told' (Ok rows) same answered (is, ascending) = record {
  answered = subst₂ (λ a r. IsAnswered (asks.List day a) r told told') same is answered;
  ascending = ascending;
}
page_taken day asked after reply told told' (Err fault.BadPage) same answered (other, rows, is, bad) = record {
  other = other;
  rows = rows;
  answered = subst₂ (λ a r. IsAnswered (asks.List day a) r told told') same is answered;
  bad = bad;
}
page_taken day asked after reply told told' ended same answered never = absurd never

-- a usage that was answered and printed
pub row_printed : (day : ℕ) (login : List ℕ) (row : UsageRow) (told told' : Option (List ReportedExchange)) (old new : Option (List ℕ)) (ended : Result (Unit {0}) ReportFault)
    → IsUsage day login told told' row → PrintsRow row old new ended → ReportsOne day login told told' old new ended
row_printed day login row told told' old new (Ok u) answered printed = (row, answered, printed)
row_printed day login row told told' old new (Err fault.Write) answered front = (row, answered, front)
row_printed day login row told told' old new (Err fault.Memory) answered front = inr (row, answered, front)
row_printed day login row told told' old new ended answered never = absurd never
