-- What an administrator's question to the quota server brings.
use Rattle.std.specs.Prelude.{◌≡◌, ◌<◌, ◌==◌, ℕ, List, [], ◌∷◌, ◌++◌, Bool, true, false, length, ◌&&◌, ◌⊎◌, Option}
use Rattle.std.specs.Prelude.{Result, Ok, Err, if◌then◌else◌}
use Rattle.std.specs.List.{All}
use Rattle.mq_request.specs.Same.{same_id, same_text}
use Rattle.mq_frame.specs.Spelling.{request_frame}
use Rattle.mq_request.specs.declared.message.Request.{Request}
use Rattle.mq_request.specs.declared.message.Request.TheVariants as asks
use Rattle.mq_request.specs.declared.message.Reply.{Reply}
use Rattle.mq_request.specs.declared.message.Reply.TheVariants as says
use Rattle.mq_command.specs.declared.ask.NoAnswer.{NoAnswer}
use Rattle.mq_command.specs.declared.ask.NoAnswer.TheVariants.{NotTaken, Unavailable, Memory}
use Rattle.mq_command.specs.declared.ask.Attempt.{Attempt}
use Rattle.mq_command.specs.declared.ask.Attempt.TheVariants as comes
use Rattle.mq_lemmas.specs.Told.{Tells}
use Rattle.mq_link.specs.Link.{Brings}
use Rattle.mq_link.specs.declared.link.ReportedExchange.{ReportedExchange}

-- whether a reply answers a release, a limit, a retire, a usage or a list
abbrev pub fits : Request → Reply → Bool
fits (asks.Release id txn moment login) (says.Released other held) = same_id id other
fits (asks.Release id txn moment login) (says.Closed other) = same_id id other
fits (asks.Release id txn moment login) (says.Mismatch other) = same_id id other
fits (asks.Release id txn moment login) (says.Conflict other) = same_id id other
fits (asks.Release id txn moment login) (says.Old other) = same_id id other
fits (asks.Limit id from_day cap login) (says.LimitSet other) = same_id id other
fits (asks.Limit id from_day cap login) (says.Over other day used) = same_id id other
fits (asks.Limit id from_day cap login) (says.Conflict other) = same_id id other
fits (asks.Limit id from_day cap login) (says.Old other) = same_id id other
fits (asks.Retire id) (says.Retired other) = same_id id other
fits (asks.Retire id) (says.Conflict other) = same_id id other
fits (asks.Retire id) (says.Old other) = same_id id other
fits (asks.Usage login day) (says.Usage other day' settled reserved cap) = same_text login other && (day == day')
fits (asks.List day after) (says.List day' rows) = true
fits _ _ = false

-- what a reply to a request comes to
abbrev pub attempt_of : Request → Reply → Attempt
attempt_of request says.Retry = comes.NotTaken
attempt_of request reply = if fits request reply then comes.Answered reply else comes.Missed

-- what sending a request once comes to, by the reply that came
abbrev pub ComesTo : Request → (Reply → Type 0) → Attempt → Type 0
ComesTo request Came (comes.Answered reply) = Came reply × (fits request reply ≡ true)
ComesTo request Came comes.NotTaken = Came says.Retry × ((reply : Reply) → Came reply → fits request reply ≡ false)
ComesTo request Came comes.Missed = (Came says.Retry → ⊥) × ((reply : Reply) → Came reply → fits request reply ≡ false)

-- the exchange sent it
abbrev pub Sends : Request → ReportedExchange → Type 0
Sends request exchange = exchange.frame ≡ request_frame request

-- the exchange brought no reply that answers the request
abbrev pub IsMissed : Request → ReportedExchange → Type 0
IsMissed request exchange = (reply : Reply) → Brings exchange.outcome reply → fits request reply ≡ false

-- the exchange brought the reply that the request is to be sent again, which the server then didn't take
abbrev pub IsNotTaken : ReportedExchange → Type 0
IsNotTaken exchange = Brings exchange.outcome says.Retry

-- The request was sent up to three times; the last exchange brought a reply that answers it, and none before it did.
pub record IsAnswered (request : Request) (reply : Reply) (old new : Option (List ReportedExchange)) : Type 0 where
  pub before : List ReportedExchange
  pub last : ReportedExchange
  pub told : Tells old new (before ++ last ∷ [])
  pub few : length before < 3
  pub sent : All (Sends request) (before ++ last ∷ [])
  pub missed : All (IsMissed request) before
  pub brought : Brings last.outcome reply
  pub answers : fits request reply ≡ true

-- whether each of these came back to be sent again
abbrev pub CameBack : Bool → List ReportedExchange → Type 0
CameBack true group = All IsNotTaken group
CameBack false group = All IsNotTaken group → ⊥

-- The request was sent so often, no exchange brought a reply that answers it, and each came back to be sent again, or not each.
pub record IsUnanswered (request : Request) (count : ℕ) (none_taken : Bool) (old new : Option (List ReportedExchange)) : Type 0 where
  pub group : List ReportedExchange
  pub told : Tells old new group
  pub counted : length group ≡ count
  pub sent : All (Sends request) group
  pub missed : All (IsMissed request) group
  pub back : CameBack none_taken group

-- The request was sent up to three times; no exchange before the last brought a reply that answers it. The last one
-- brought a reply that couldn't be decoded since memory ran out.
pub record IsUndecoded (request : Request) (old new : Option (List ReportedExchange)) : Type 0 where
  pub before : List ReportedExchange
  pub last : ReportedExchange
  pub told : Tells old new (before ++ last ∷ [])
  pub few : length before < 3
  pub sent : All (Sends request) (before ++ last ∷ [])
  pub missed : All (IsMissed request) before
  pub reply : Reply
  pub brought : Brings last.outcome reply

-- What asking leads to: the first reply that answers, or the fault after three exchanges without one, by whether each came back
-- to be sent again. That memory ran out ends it before any exchange, or at a reply that came.
abbrev pub Asks : Request → Option (List ReportedExchange) → Option (List ReportedExchange) → Result Reply NoAnswer → Type 0
Asks request old new (Ok reply) = IsAnswered request reply old new
Asks request old new (Err NotTaken) = IsUnanswered request 3 true old new
Asks request old new (Err Unavailable) = IsUnanswered request 3 false old new
Asks request old new (Err Memory) = (new ≡ old) ⊎ IsUndecoded request old new

-- 0 where all is done and printed, else 1
abbrev pub status_of : {Fault : Type 0} → Result (Unit {0}) Fault → ℕ
status_of (Ok _) = 0
status_of (Err fault) = 1
