-- Which values of each field, and which requests and replies, a frame can carry.
use Rattle.std.specs.Prelude.{ℕ, List, length, ◌≤◌, ◌⊎◌, Bool, ◌&&◌, ◌||◌, nat_le}
use Rattle.std.specs.List.{All}
use Rattle.mq_request.specs.declared.bounds.TheConstants.{HOST_LIMIT, LOGIN_LIMIT, LAST_RUN, LAST_ORDINAL, FIRST_MOMENT}
use Rattle.mq_request.specs.declared.bounds.TheConstants.{LAST_MOMENT, LAST_DAY, COUNT_LIMIT, AMOUNT_LIMIT, ROW_LIMIT}
use Rattle.mq_request.specs.declared.message.Id.{Id}
use Rattle.mq_request.specs.declared.message.Request.{Request}
use Rattle.mq_request.specs.declared.message.Request.TheVariants.{Reserve, Settle, Release}
use Rattle.mq_request.specs.declared.message.Request.TheVariants.{Limit, Usage, List as ListRequest, Retire}
use Rattle.mq_request.specs.declared.message.Reply.{Reply}
use Rattle.mq_request.specs.declared.message.Reply.TheVariants.{Granted, Full, Settled, Released, LimitSet, Over, Closed}
use Rattle.mq_request.specs.declared.message.Reply.TheVariants.{Mismatch, TooMany, Conflict, Usage as UsageReply}
use Rattle.mq_request.specs.declared.message.Reply.TheVariants.{List as ListReply, Retry, Bad, Retired, Old}
use Rattle.mq_request.specs.declared.usage.UsageRow.{UsageRow}

-- the number is low, high or between them
pub record IsWithin (low high n : ℕ) : Type 0 where
  pub from : low ≤ n
  pub to : n ≤ high

-- an ASCII digit, capital letter, small letter, `-` or `.`
abbrev pub IsHostByte : ℕ → Type 0
IsHostByte b = IsWithin 48 57 b ⊎ (IsWithin 65 90 b ⊎ (IsWithin 97 122 b ⊎ IsWithin 45 46 b))

-- the same as tests that compute
abbrev pub between : ℕ → ℕ → ℕ → Bool
between low high n = nat_le low n && nat_le n high

abbrev pub is_host_byte : ℕ → Bool
is_host_byte b = between 48 57 b || (between 65 90 b || (between 97 122 b || between 45 46 b))

-- 1 to 64 bytes of a host's name
pub record IsHost (host : List ℕ) : Type 0 where
  pub size : IsWithin 1 HOST_LIMIT (length host)
  pub bytes : All IsHostByte host

-- 1 to 255 bytes of any value
abbrev pub IsLogin : List ℕ → Type 0
IsLogin login = IsWithin 1 LOGIN_LIMIT (length login)

-- a login, or nothing: a page of a list begins after it
abbrev pub IsAfter : List ℕ → Type 0
IsAfter after = IsWithin 0 LOGIN_LIMIT (length after)

-- a run of a host's filter: of 48 bits, and not 0
abbrev pub IsRun : ℕ → Type 0
IsRun run = IsWithin 1 LAST_RUN run

-- the number of a request or a transaction in its run: of 32 bits, and not 0
abbrev pub IsOrdinal : ℕ → Type 0
IsOrdinal n = IsWithin 1 LAST_ORDINAL n

-- a moment from 1970-01-02T00:00:00Z to 3000-01-01T00:00:00Z
abbrev pub IsMoment : ℕ → Type 0
IsMoment moment = IsWithin FIRST_MOMENT LAST_MOMENT moment

-- a day number from 1970-01-01 on, up to that of the last moment
abbrev pub IsDay : ℕ → Type 0
IsDay day = IsWithin 0 LAST_DAY day

-- recipients of one request
abbrev pub IsCount : ℕ → Type 0
IsCount count = IsWithin 1 COUNT_LIMIT count

-- recipients of a login and day, or their limit
abbrev pub IsAmount : ℕ → Type 0
IsAmount n = IsWithin 0 AMOUNT_LIMIT n

-- host, run and number of a request are in range
pub record IsId (id : Id) : Type 0 where
  pub host : IsHost id.host
  pub run : IsRun id.run
  pub number : IsOrdinal id.number

-- login, settled, reserved and cap of a row are in range
pub record IsRow (row : UsageRow) : Type 0 where
  pub login : IsLogin row.login
  pub settled : IsAmount row.settled
  pub reserved : IsAmount row.reserved
  pub cap : IsAmount row.cap

-- at most 100 rows, each in range
pub record IsPage (rows : List UsageRow) : Type 0 where
  pub size : IsWithin 0 ROW_LIMIT (length rows)
  pub each : All IsRow rows

-- each field of the request is in range
abbrev pub IsRequest : Request → Type 0
IsRequest (Reserve id txn moment login count) = IsId id × IsOrdinal txn × IsMoment moment × IsLogin login × IsCount count
IsRequest (Settle id txn moment login count) = IsId id × IsOrdinal txn × IsMoment moment × IsLogin login × IsCount count
IsRequest (Release id txn moment login) = IsId id × IsOrdinal txn × IsMoment moment × IsLogin login
IsRequest (Limit id from_day cap login) = IsId id × IsDay from_day × IsAmount cap × IsLogin login
IsRequest (Usage login day) = IsLogin login × IsDay day
IsRequest (ListRequest day after) = IsDay day × IsAfter after
IsRequest (Retire id) = IsId id

-- each field of the reply is in range
abbrev pub IsReply : Reply → Type 0
IsReply (Granted id used) = IsId id × IsAmount used
IsReply (Full id used cap) = IsId id × IsAmount used × IsAmount cap
IsReply (Settled id count) = IsId id × IsCount count
IsReply (Released id held) = IsId id × IsAmount held
IsReply (LimitSet id) = IsId id
IsReply (Over id day used) = IsId id × IsDay day × IsAmount used
IsReply (Closed id) = IsId id
IsReply (Mismatch id) = IsId id
IsReply (TooMany id held) = IsId id × IsAmount held
IsReply (Conflict id) = IsId id
IsReply (UsageReply login day settled reserved cap) =
    IsLogin login × IsDay day × IsAmount settled × IsAmount reserved × IsAmount cap
IsReply (ListReply day rows) = IsDay day × IsPage rows
IsReply Retry = Unit {0}
IsReply Bad = Unit {0}
IsReply (Retired id) = IsId id
IsReply (Old id) = IsId id
