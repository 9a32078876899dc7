-- Which replies a request can get.
use Rattle.std.specs.Prelude.{◌≡◌}
use Rattle.mq_request.specs.declared.message.Request.{Request}
use Rattle.mq_request.specs.declared.message.Request.TheVariants.{Reserve, Settle, Release, Limit, Usage}
use Rattle.mq_request.specs.declared.message.Request.TheVariants.{List as ListRequest, Retire}
use Rattle.mq_request.specs.declared.message.Reply.{Reply}
use Rattle.mq_request.specs.declared.message.Reply.TheVariants.{Granted, Full, Settled, Released, LimitSet, Over, Closed}
use Rattle.mq_request.specs.declared.message.Reply.TheVariants.{Mismatch, TooMany, Conflict, Usage as UsageReply}
use Rattle.mq_request.specs.declared.message.Reply.TheVariants.{List as ListReply, Retired, Old}

-- The reply is one to such a request, and has its number: Granted and Full come to reserves alone, Settled and TooMany
-- to settles, Released to releases, Retired to retires; Settled has the settle's count.
abbrev pub Suits : Request → Reply → Type 0
Suits (Reserve id txn moment login count) (Granted id' used) = id' ≡ id
Suits (Reserve id txn moment login count) (Full id' used cap) = id' ≡ id
Suits (Reserve id txn moment login count) (Closed id') = id' ≡ id
Suits (Reserve id txn moment login count) (Mismatch id') = id' ≡ id
Suits (Reserve id txn moment login count) (Conflict id') = id' ≡ id
Suits (Reserve id txn moment login count) (Old id') = id' ≡ id
Suits (Settle id txn moment login count) (Settled id' count') = (id' ≡ id) × (count' ≡ count)
Suits (Settle id txn moment login count) (TooMany id' held) = id' ≡ id
Suits (Settle id txn moment login count) (Closed id') = id' ≡ id
Suits (Settle id txn moment login count) (Mismatch id') = id' ≡ id
Suits (Settle id txn moment login count) (Conflict id') = id' ≡ id
Suits (Settle id txn moment login count) (Old id') = id' ≡ id
Suits (Release id txn moment login) (Released id' held) = id' ≡ id
Suits (Release id txn moment login) (Closed id') = id' ≡ id
Suits (Release id txn moment login) (Mismatch id') = id' ≡ id
Suits (Release id txn moment login) (Conflict id') = id' ≡ id
Suits (Release id txn moment login) (Old id') = id' ≡ id
Suits (Limit id from_day cap login) (LimitSet id') = id' ≡ id
Suits (Limit id from_day cap login) (Over id' day used) = id' ≡ id
Suits (Limit id from_day cap login) (Conflict id') = id' ≡ id
Suits (Limit id from_day cap login) (Old id') = id' ≡ id
Suits (Usage login day) (UsageReply login' day' settled reserved cap) = (login' ≡ login) × (day' ≡ day)
Suits (ListRequest day after) (ListReply day' rows) = day' ≡ day
Suits (Retire id) (Retired id') = id' ≡ id
Suits (Retire id) (Conflict id') = id' ≡ id
Suits (Retire id) (Old id') = id' ≡ id
Suits _ _ = ⊥
