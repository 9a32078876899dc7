-- What the parts of a body stand for.
use Rattle.std.specs.Prelude.{ℕ, zero, suc, List, [], ◌∷◌, Option, Some, None}
use Rattle.mq_frame.specs.Reading.{row, Transaction}
use Rattle.mq_frame.specs.Shown.{shown_id}
use Rattle.mq_frame.specs.declared.page.PageParts.{PageParts}
use Rattle.mq_frame.specs.declared.request_parts.TransactionParts.{TransactionParts}
use Rattle.mq_frame.specs.declared.request_parts.RequestParts.{RequestParts}
use Rattle.mq_frame.specs.declared.request_parts.RequestParts.TheVariants as request_parts
use Rattle.mq_frame.specs.declared.reply_parts.ReplyParts.{ReplyParts}
use Rattle.mq_frame.specs.declared.reply_parts.ReplyParts.TheVariants as reply_parts
use Rattle.mq_request.specs.declared.message.Request.{Request}
use Rattle.mq_request.specs.declared.message.Request.TheVariants.{Reserve, Settle, Release}
use Rattle.mq_request.specs.declared.message.Request.TheVariants.{Limit, Usage, List as ListRequest, Retire}
use Rattle.mq_request.specs.declared.message.Reply.{Reply}
use Rattle.mq_request.specs.declared.message.Reply.TheVariants.{Granted, Full, Settled, Released, LimitSet, Over, Closed}
use Rattle.mq_request.specs.declared.message.Reply.TheVariants.{Mismatch, TooMany, Conflict, Usage as UsageReply}
use Rattle.mq_request.specs.declared.message.Reply.TheVariants.{List as ListReply, Retry, Bad, Retired, Old}
use Rattle.mq_request.specs.declared.usage.UsageRow.{UsageRow}

-- the row that was read, where there is one, and the others after it
abbrev pub row_then : (List ℕ → List UsageRow) → Option (UsageRow × List ℕ) → List UsageRow
row_then others None = []
row_then others (Some x) = x.0 ∷ others x.1

-- the rows that the bytes begin with, at most so many
abbrev pub rows_in : ℕ → List ℕ → List UsageRow
rows_in zero bytes = []
rows_in (suc n) bytes = row_then (rows_in n) (row.read bytes)

-- the rows of a page, at most as many as its byte of count says
abbrev pub shown_page : PageParts → List UsageRow
shown_page x = rows_in x.count x.bytes.now

-- id, txn, moment and login, as the bytes of a request say them
abbrev pub shown_transaction : TransactionParts → Transaction
shown_transaction x = record { id = shown_id x.id; txn = x.txn; moment = x.moment; login = x.login.now }

-- the request that a body stands for
abbrev pub shown_request : RequestParts → Request
shown_request (request_parts.Reserve t count) = Reserve (shown_id t.id) t.txn t.moment t.login.now count
shown_request (request_parts.Settle t count) = Settle (shown_id t.id) t.txn t.moment t.login.now count
shown_request (request_parts.Release t) = Release (shown_id t.id) t.txn t.moment t.login.now
shown_request (request_parts.Limit id from_day cap login) = Limit (shown_id id) from_day cap login.now
shown_request (request_parts.Usage login day) = Usage login.now day
shown_request (request_parts.List day after) = ListRequest day after.now
shown_request (request_parts.Retire id) = Retire (shown_id id)

-- the reply that a body stands for
abbrev pub shown_reply : ReplyParts → Reply
shown_reply (reply_parts.Granted id used) = Granted (shown_id id) used
shown_reply (reply_parts.Full id used cap) = Full (shown_id id) used cap
shown_reply (reply_parts.Settled id count) = Settled (shown_id id) count
shown_reply (reply_parts.Released id held) = Released (shown_id id) held
shown_reply (reply_parts.LimitSet id) = LimitSet (shown_id id)
shown_reply (reply_parts.Over id day used) = Over (shown_id id) day used
shown_reply (reply_parts.Closed id) = Closed (shown_id id)
shown_reply (reply_parts.Mismatch id) = Mismatch (shown_id id)
shown_reply (reply_parts.TooMany id held) = TooMany (shown_id id) held
shown_reply (reply_parts.Conflict id) = Conflict (shown_id id)
shown_reply (reply_parts.Usage login day settled reserved cap) = UsageReply login.now day settled reserved cap
shown_reply (reply_parts.List day rows) = ListReply day (shown_page rows)
shown_reply reply_parts.Retry = Retry
shown_reply reply_parts.Bad = Bad
shown_reply (reply_parts.Retired id) = Retired (shown_id id)
shown_reply (reply_parts.Old id) = Old (shown_id id)
