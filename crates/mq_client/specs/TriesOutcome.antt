-- What comes of a request's tries.
use Rattle.std.specs.Prelude.{◌≡◌, ℕ, List, Bool, true, false, Option, Some, None}
use Rattle.mq_request.specs.declared.message.Reply.{Reply}
use Rattle.mq_client.specs.Exchanges.{Exchange, has_timed_out}
use Rattle.mq_client.specs.Verdict.{IsVerdict}
use Rattle.mq_client.specs.declared.verdict.Verdict.{Verdict}
use Rattle.mq_client.specs.declared.verdict.Verdict.TheVariants as verdict
use Rattle.mq_client.specs.declared.tries.TriesOutcome.{TriesOutcome}
use Rattle.mq_client.specs.declared.tries.TriesOutcome.TheVariants as tried

-- what a reply decided, where one did
abbrev pub verdict_of : TriesOutcome → Option Verdict
verdict_of (tried.Decided v) = Some v
verdict_of tried.Undecided = None
verdict_of tried.TimedOut = None

abbrev pub is_decided : TriesOutcome → Bool
is_decided (tried.Decided v) = true
is_decided tried.Undecided = false
is_decided tried.TimedOut = false

-- none did, and a try ran out of time
abbrev pub is_late : TriesOutcome → Bool
is_late (tried.Decided v) = false
is_late tried.Undecided = false
is_late tried.TimedOut = true

-- how many recipients were given back
abbrev pub given_by : TriesOutcome → ℕ
given_by (tried.Decided (verdict.Released held)) = held
given_by _ = 0

-- it came of these exchanges, of which this reply decided
pub record ComesOf (decided : Option Reply) (group : List Exchange) (t : TriesOutcome) : Type 0 where
  pub verdict : IsVerdict decided (verdict_of t)
  pub late : is_late t ≡ has_timed_out group
