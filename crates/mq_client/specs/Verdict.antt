-- What a client keeps of a reply that decides a request.
use Rattle.std.specs.Prelude.{◌≡◌, Bool, true, false, Option, Some, None, if◌then◌else◌}
use Rattle.mq_request.specs.declared.message.Request.{Request}
use Rattle.mq_request.specs.declared.message.Reply.{Reply}
use Rattle.mq_request.specs.declared.message.Reply.TheVariants as reply
use Rattle.mq_client.specs.Exchanges.{decides}
use Rattle.mq_client.specs.declared.verdict.Verdict.{Verdict}
use Rattle.mq_client.specs.declared.verdict.Verdict.TheVariants as verdict

-- the verdict is what the reply says
abbrev pub Says : Reply → Verdict → Type 0
Says (reply.Granted id used) v = v ≡ verdict.Granted
Says (reply.Full id used cap) v = v ≡ verdict.Full used cap
Says (reply.Settled id count) v = v ≡ verdict.Settled
Says (reply.Released id held) v = v ≡ verdict.Released held
Says (reply.Closed id) v = v ≡ verdict.Closed
Says (reply.Mismatch id) v = v ≡ verdict.Mismatch
Says (reply.TooMany id held) v = v ≡ verdict.TooMany held
Says (reply.Conflict id) v = v ≡ verdict.Conflict
Says (reply.Old id) v = v ≡ verdict.Old
Says _ v = ⊥

-- a verdict is kept where a reply decided, and says what that says
abbrev pub IsVerdict : Option Reply → Option Verdict → Type 0
IsVerdict (Some reply) (Some v) = Says reply v
IsVerdict None None = Unit {0}
IsVerdict _ _ = ⊥

-- whether a reply is an answer to some request, and not that none was taken
abbrev pub is_answer : Reply → Bool
is_answer reply.Retry = false
is_answer reply.Bad = false
is_answer r = true

-- whether the server refused a request for another cause than the limit
abbrev pub is_refusal : Verdict → Bool
is_refusal verdict.Closed = true
is_refusal verdict.Mismatch = true
is_refusal (verdict.TooMany held) = true
is_refusal verdict.Conflict = true
is_refusal verdict.Old = true
is_refusal v = false

-- the reply, where it decides the request
abbrev pub deciding : Request → Reply → Option Reply
deciding request reply = if decides request reply then Some reply else None
