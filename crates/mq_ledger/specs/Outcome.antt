-- The reply to a numbered request, by what it comes to.
use Rattle.mq_request.specs.declared.message.Id.{Id}
use Rattle.mq_request.specs.declared.message.Reply.{Reply}
use Rattle.mq_request.specs.declared.message.Reply.TheVariants as reply
use Rattle.mq_ledger.specs.declared.outcome.Outcome.{Outcome}
use Rattle.mq_ledger.specs.declared.outcome.Outcome.TheVariants.{Granted, Full, TooMany, Settled, Released, Closed, Mismatch, LimitSet, Over, Retired}

-- the number, and what the request comes to
abbrev pub reply_of : Id → Outcome → Reply
reply_of id (Granted used) = reply.Granted id used
reply_of id (Full used cap) = reply.Full id used cap
reply_of id (TooMany held) = reply.TooMany id held
reply_of id (Settled count) = reply.Settled id count
reply_of id (Released held) = reply.Released id held
reply_of id Closed = reply.Closed id
reply_of id Mismatch = reply.Mismatch id
reply_of id LimitSet = reply.LimitSet id
reply_of id (Over day used) = reply.Over id day used
reply_of id Retired = reply.Retired id
