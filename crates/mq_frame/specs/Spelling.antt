-- The link's format: how each request and reply is spelled as the body of a frame.
use Rattle.std.specs.Prelude.{◌≡◌, ℕ, List, [], ◌∷◌, ◌++◌, length}
use Rattle.std.specs.List.{flat_map}
use Rattle.std.specs.Int.{w16, w32, w64, to_be_bytes}
use Rattle.mq_frame.specs.declared.format.TheConstants.{RESERVE, SETTLE, RELEASE, LIMIT, USAGE, LIST, RETIRE}
use Rattle.mq_frame.specs.declared.format.TheConstants.{GRANTED, FULL, SETTLED, RELEASED, LIMIT_SET, OVER, CLOSED}
use Rattle.mq_frame.specs.declared.format.TheConstants.{MISMATCH, TOO_MANY, CONFLICT}
use Rattle.mq_frame.specs.declared.format.TheConstants.{USAGE_REPLY, LIST_REPLY, RETRY, BAD, RETIRED, OLD}
use Rattle.mq_request.specs.Range.{IsRequest, IsReply}
use Rattle.mq_request.specs.declared.message.Id.{Id}
use Rattle.mq_request.specs.declared.message.Request.{Request}
use Rattle.mq_request.specs.declared.message.Request.TheVariants.{Reserve, Settle, Release}
use Rattle.mq_request.specs.declared.message.Request.TheVariants.{Limit, Usage, List as ListRequest, Retire}
use Rattle.mq_request.specs.declared.message.Reply.{Reply}
use Rattle.mq_request.specs.declared.message.Reply.TheVariants.{Granted, Full, Settled, Released, LimitSet, Over, Closed}
use Rattle.mq_request.specs.declared.message.Reply.TheVariants.{Mismatch, TooMany, Conflict, Usage as UsageReply}
use Rattle.mq_request.specs.declared.message.Reply.TheVariants.{List as ListReply, Retry, Bad, Retired, Old}
use Rattle.mq_request.specs.declared.usage.UsageRow.{UsageRow}

-- a number in 2, 4 or 8 bytes, the highest first
abbrev pub in_2_bytes : ℕ → List ℕ
in_2_bytes n = to_be_bytes w16 n

abbrev pub in_4_bytes : ℕ → List ℕ
in_4_bytes n = to_be_bytes w32 n

abbrev pub in_8_bytes : ℕ → List ℕ
in_8_bytes n = to_be_bytes w64 n

-- a text after one byte of its length
abbrev pub with_length : List ℕ → List ℕ
with_length text = length text ∷ text

-- host, run and number, which name a request
abbrev pub id_bytes : Id → List ℕ
id_bytes id = with_length id.host ++ (in_8_bytes id.run ++ in_4_bytes id.number)

-- id, txn, moment and login, which three kinds of requests begin with
abbrev pub transaction_bytes : Id → ℕ → ℕ → List ℕ → List ℕ
transaction_bytes id txn moment login = id_bytes id ++ (in_4_bytes txn ++ (in_8_bytes moment ++ with_length login))

-- login, settled, reserved and cap of one row of a page
abbrev pub row_bytes : UsageRow → List ℕ
row_bytes row = with_length row.login ++ (in_4_bytes row.settled ++ (in_4_bytes row.reserved ++ in_4_bytes row.cap))

-- the rows of a page after one byte of their count
abbrev pub page_bytes : List UsageRow → List ℕ
page_bytes rows = length rows ∷ flat_map row_bytes rows

-- the kind of a request in one byte, and then its fields
abbrev pub request_body : Request → List ℕ
request_body (Reserve id txn moment login count) = RESERVE ∷ (transaction_bytes id txn moment login ++ in_4_bytes count)
request_body (Settle id txn moment login count) = SETTLE ∷ (transaction_bytes id txn moment login ++ in_4_bytes count)
request_body (Release id txn moment login) = RELEASE ∷ transaction_bytes id txn moment login
request_body (Limit id from_day cap login) =
    LIMIT ∷ (id_bytes id ++ (in_4_bytes from_day ++ (in_4_bytes cap ++ with_length login)))
request_body (Usage login day) = USAGE ∷ (with_length login ++ in_4_bytes day)
request_body (ListRequest day after) = LIST ∷ (in_4_bytes day ++ with_length after)
request_body (Retire id) = RETIRE ∷ id_bytes id

-- the kind of a reply in one byte, and then its fields
abbrev pub reply_body : Reply → List ℕ
reply_body (Granted id used) = GRANTED ∷ (id_bytes id ++ in_4_bytes used)
reply_body (Full id used cap) = FULL ∷ (id_bytes id ++ (in_4_bytes used ++ in_4_bytes cap))
reply_body (Settled id count) = SETTLED ∷ (id_bytes id ++ in_4_bytes count)
reply_body (Released id held) = RELEASED ∷ (id_bytes id ++ in_4_bytes held)
reply_body (LimitSet id) = LIMIT_SET ∷ id_bytes id
reply_body (Over id day used) = OVER ∷ (id_bytes id ++ (in_4_bytes day ++ in_4_bytes used))
reply_body (Closed id) = CLOSED ∷ id_bytes id
reply_body (Mismatch id) = MISMATCH ∷ id_bytes id
reply_body (TooMany id held) = TOO_MANY ∷ (id_bytes id ++ in_4_bytes held)
reply_body (Conflict id) = CONFLICT ∷ id_bytes id
reply_body (UsageReply login day settled reserved cap) =
    USAGE_REPLY ∷ (with_length login ++ (in_4_bytes day
    ++ (in_4_bytes settled ++ (in_4_bytes reserved ++ in_4_bytes cap))))
reply_body (ListReply day rows) = LIST_REPLY ∷ (in_4_bytes day ++ page_bytes rows)
reply_body Retry = RETRY ∷ []
reply_body Bad = BAD ∷ []
reply_body (Retired id) = RETIRED ∷ id_bytes id
reply_body (Old id) = OLD ∷ id_bytes id

-- the body is the spelling of the request, whose fields are in range
pub record SpellsRequest (body : List ℕ) (request : Request) : Type 0 where
  pub bytes : body ≡ request_body request
  pub in_range : IsRequest request

-- the body is the spelling of the reply, whose fields are in range
pub record SpellsReply (body : List ℕ) (reply : Reply) : Type 0 where
  pub bytes : body ≡ reply_body reply
  pub in_range : IsReply reply

-- a frame: the length of its body in 2 bytes, and the body
abbrev pub frame : List ℕ → List ℕ
frame body = in_2_bytes (length body) ++ body

-- the one frame of a request
abbrev pub request_frame : Request → List ℕ
request_frame request = frame (request_body request)
