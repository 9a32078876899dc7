-- The exchanges of one request: what each brought, and which reply decides.
use Rattle.std.specs.Prelude.{◌≡◌, ℕ, ◌<◌, List, [], ◌∷◌, ◌++◌, length, Bool, true, false, Option, None, Some, is_some}
use Rattle.std.specs.Prelude.{if◌then◌else◌, ◌+◌, ◌||◌}
use Rattle.mq_request.specs.Same.{same_id}
use Rattle.mq_request.specs.declared.message.Id.{Id}
use Rattle.mq_request.specs.declared.message.Request.{Request}
use Rattle.mq_request.specs.declared.message.Request.TheVariants.{Reserve, Settle, Release}
use Rattle.mq_request.specs.declared.message.Reply.{Reply}
use Rattle.mq_request.specs.declared.message.Reply.TheVariants.{Granted, Full, Settled, Released, Closed, Mismatch}
use Rattle.mq_request.specs.declared.message.Reply.TheVariants.{TooMany, Conflict, Old}
use Rattle.mq_frame.specs.Spelling.{request_frame}
use Rattle.mq_link.specs.Link.{Brings}
use Rattle.mq_link.specs.declared.link.LinkFault.TheVariants.{TimedOut}
use Rattle.mq_link.specs.declared.link.ExchangeOutcome.{ExchangeOutcome}
use Rattle.mq_link.specs.declared.link.ExchangeOutcome.TheVariants.{Faulted}
use Rattle.mq_link.specs.declared.link.ReportedExchange.{ReportedExchange}

-- an exchange of a request: how it ended, and the reply that decided the request, where one did
pub record Exchange : Type 0 where
  pub request : Request
  pub outcome : ExchangeOutcome
  pub decided : Option Reply

-- the kinds that answer a reserve, with its id
abbrev pub answers_reserve : Id → Reply → Bool
answers_reserve id (Granted other used) = same_id id other
answers_reserve id (Full other used cap) = same_id id other
answers_reserve id (Closed other) = same_id id other
answers_reserve id (Mismatch other) = same_id id other
answers_reserve id (Conflict other) = same_id id other
answers_reserve id (Old other) = same_id id other
answers_reserve id _ = false

-- the kinds that answer a settle or a release, with its id
abbrev pub answers_closing : Id → Reply → Bool
answers_closing id (Settled other count) = same_id id other
answers_closing id (Released other held) = same_id id other
answers_closing id (Closed other) = same_id id other
answers_closing id (Mismatch other) = same_id id other
answers_closing id (TooMany other held) = same_id id other
answers_closing id (Conflict other) = same_id id other
answers_closing id (Old other) = same_id id other
answers_closing id _ = false

-- whether the reply decides the request
abbrev pub decides : Request → Reply → Bool
decides (Reserve id txn moment login count) reply = answers_reserve id reply
decides (Settle id txn moment login count) reply = answers_closing id reply
decides (Release id txn moment login) reply = answers_closing id reply
decides _ reply = false

-- what an exchange of the request that ended so comes to: a reply that came decides it, or none came that does
abbrev pub IsDecision : Request → ExchangeOutcome → Option Reply → Type 0
IsDecision request outcome (Some reply) = Brings outcome reply × (decides request reply ≡ true)
IsDecision request outcome None = (reply : Reply) → Brings outcome reply → decides request reply ≡ false

-- an exchange of the request that fails, or that the reply decides
pub record IsTry (request : Request) (x : Exchange) (decided : Option Reply) : Type 0 where
  pub request_is : x.request ≡ request
  pub decision : IsDecision request x.outcome x.decided
  pub decided_is : x.decided ≡ decided

-- In a group of exchanges the newest comes first.

-- each exchange of the group is one of the request that fails
abbrev pub AreFailed : Request → List Exchange → Type 0
AreFailed request [] = Unit {0}
AreFailed request (x ∷ group) = IsTry request x None × AreFailed request group

-- n exchanges of the request that fail, or fewer that fail and then one that the reply decides
abbrev pub AreTries : ℕ → Request → List Exchange → Option Reply → Type 0
AreTries n request group None = AreFailed request group × (length group ≡ n)
AreTries n request [] (Some reply) = ⊥
AreTries n request (x ∷ group) (Some reply) = IsTry request x (Some reply) × AreFailed request group
    × (length group < n)

-- how many of the exchanges decide
abbrev pub decisions : List Exchange → ℕ
decisions [] = 0
decisions (x ∷ group) = if is_some (x.decided) then decisions group + 1 else decisions group

-- an exchange that ended so ran out of time
abbrev pub ran_out : ExchangeOutcome → Bool
ran_out (Faulted TimedOut) = true
ran_out _ = false

-- no exchange decided the last request, and one of its tries ran out of time
abbrev pub has_timed_out : List Exchange → Bool
has_timed_out [] = false
has_timed_out (x ∷ group) = if is_some (x.decided) then false else (ran_out x.outcome || has_timed_out group)

-- From the front of a queue, each request is tried, and the next one only where a reply decides. So far
-- the exchanges are these, and these requests are left.
pub data SendsSome (n : ℕ) (queue : List Request) : List Exchange → List Request → Type 0 where
  NoneYet : SendsSome n queue [] queue
  OneMore : (request : Request) (left : List Request) (group tries : List Exchange) (reply : Reply)
      → SendsSome n queue group (request ∷ left) → AreTries n request tries (Some reply)
      → SendsSome n queue (tries ++ group) left

-- no reply decides the request: all its tries fail
abbrev pub IsUndecided : ℕ → Request → List Exchange → Type 0
IsUndecided n request tries = AreTries n request tries None

-- sent from the front of the queue until it is empty, or until no reply decides a request, which stays first
pub data Sends (n : ℕ) (queue : List Request) : List Exchange → List Request → Type 0 where
  SendsAll : (group : List Exchange) → SendsSome n queue group [] → Sends n queue group []
  SendsUpTo : (request : Request) (left : List Request) (group tries : List Exchange)
      → SendsSome n queue group (request ∷ left) → IsUndecided n request tries
      → Sends n queue (tries ++ group) (request ∷ left)

-- the exchanges of a request that one call sent: whether a reply decided it
abbrev pub IsSent : ℕ → Request → List Exchange → Bool → Type 0
IsSent n request tries true = (reply : Reply) × AreTries n request tries (Some reply)
IsSent n request tries false = IsUndecided n request tries

-- an exchange as the link reports it
abbrev pub told_of : Exchange → ReportedExchange
told_of x = record { frame = request_frame x.request; outcome = x.outcome }

-- the exchanges of a group as the link reports them, the oldest first
abbrev pub told_all : List Exchange → List ReportedExchange
told_all [] = []
told_all (x ∷ group) = told_all group ++ told_of x ∷ []
