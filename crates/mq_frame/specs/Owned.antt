-- Which requests and replies hold bytes of their own, so that memory is needed for them.
use Rattle.std.specs.Prelude.{length, ◌<◌, ⊤}
use Rattle.mq_request.specs.declared.message.Request.{Request}
use Rattle.mq_request.specs.declared.message.Request.TheVariants.{Reserve, Settle, Release}
use Rattle.mq_request.specs.declared.message.Request.TheVariants.{Limit, Usage, List as ListRequest, Retire}
use Rattle.mq_request.specs.declared.message.Reply.{Reply}
use Rattle.mq_request.specs.declared.message.Reply.TheVariants.{Granted, Full, Settled, Released, LimitSet, Over, Closed}
use Rattle.mq_request.specs.declared.message.Reply.TheVariants.{Mismatch, TooMany, Conflict, Usage as UsageReply}
use Rattle.mq_request.specs.declared.message.Reply.TheVariants.{List as ListReply, Retry, Bad, Retired, Old}

-- a host or a login, which are never empty, or the login after which a list begins, where that isn't
abbrev pub RequestHoldsBytes : Request → Type 0
RequestHoldsBytes (Reserve id txn moment login count) = ⊤
RequestHoldsBytes (Settle id txn moment login count) = ⊤
RequestHoldsBytes (Release id txn moment login) = ⊤
RequestHoldsBytes (Limit id from_day cap login) = ⊤
RequestHoldsBytes (Usage login day) = ⊤
RequestHoldsBytes (ListRequest day after) = 0 < length after
RequestHoldsBytes (Retire id) = ⊤

-- a host, a login or a page, also one without rows: all but `Retry` and `Bad`
abbrev pub ReplyHoldsBytes : Reply → Type 0
ReplyHoldsBytes (Granted id used) = ⊤
ReplyHoldsBytes (Full id used cap) = ⊤
ReplyHoldsBytes (Settled id count) = ⊤
ReplyHoldsBytes (Released id held) = ⊤
ReplyHoldsBytes (LimitSet id) = ⊤
ReplyHoldsBytes (Over id day used) = ⊤
ReplyHoldsBytes (Closed id) = ⊤
ReplyHoldsBytes (Mismatch id) = ⊤
ReplyHoldsBytes (TooMany id held) = ⊤
ReplyHoldsBytes (Conflict id) = ⊤
ReplyHoldsBytes (UsageReply login day settled reserved cap) = ⊤
ReplyHoldsBytes (ListReply day rows) = ⊤
ReplyHoldsBytes Retry = ⊥
ReplyHoldsBytes Bad = ⊥
ReplyHoldsBytes (Retired id) = ⊤
ReplyHoldsBytes (Old id) = ⊤
