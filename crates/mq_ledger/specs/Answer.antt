-- What a ledger answers, and the history that its answers make.
--
-- `day` gives the day of a moment, and `default` the limit of a login that has none.
use Rattle.std.specs.Prelude.{ℕ, ◌+◌, List, [], ◌∷◌, ◌++◌, map, find, fold, Bool, false, not, ◌||◌, nat_lt, if◌then◌else◌}
use Rattle.std.specs.Prelude.{Option, Some, None, is_some}
use Rattle.mq_request.specs.declared.message.Id.{Id}
use Rattle.mq_request.specs.declared.message.Request.{Request}
use Rattle.mq_request.specs.declared.message.Request.TheVariants.{Reserve, Settle, Release, Limit, Usage}
use Rattle.mq_request.specs.declared.message.Request.TheVariants.{List as ListRequest, Retire}
use Rattle.mq_request.specs.declared.message.Reply.{Reply}
use Rattle.mq_request.specs.declared.message.Reply.TheVariants.{Granted, Full, Settled, Released, LimitSet, Over, Closed}
use Rattle.mq_request.specs.declared.message.Reply.TheVariants.{Mismatch, TooMany, Conflict, Usage as UsageReply}
use Rattle.mq_request.specs.declared.message.Reply.TheVariants.{List as ListReply, Retired, Old}
use Rattle.mq_request.specs.Same.{same_request}
use Rattle.mq_ledger.specs.declared.entry.Entry.{Entry}
use Rattle.mq_ledger.specs.Arrivals.{id_of, has_id, is_below, first}
use Rattle.mq_ledger.specs.History.{requests, transaction, named, agrees, closed, held, settled, reserved, used}
use Rattle.mq_ledger.specs.Limits.{cap}
use Rattle.mq_ledger.specs.Over.{over}
use Rattle.mq_ledger.specs.Page.{page, row}

-- Mismatch where the transaction is named with another login or moment, Closed where it is closed,
-- else that reply
abbrev pub if_open : List Entry → Id → ℕ → ℕ → List ℕ → Reply → Reply
if_open H id txn moment login a =
    if not (agrees moment login (named H (transaction id txn))) then Mismatch id
    else (if closed H (transaction id txn) then Closed id else a)

-- a reserve of that count, where n is used already
abbrev pub granted_or_full : Id → ℕ → ℕ → ℕ → Reply
granted_or_full id n limit count = if nat_lt limit (n + count) then Full id n limit else Granted id (n + count)

-- a settle of that count, where n is held
abbrev pub settled_or_too_many : Id → ℕ → ℕ → Reply
settled_or_too_many id n count = if nat_lt n count then TooMany id n else Settled id count

-- a limit, where that day is the first with more used
abbrev pub set_or_over : (ℕ → ℕ) → List Entry → Id → List ℕ → Option ℕ → Reply
set_or_over day H id login None = LimitSet id
set_or_over day H id login (Some d) = Over id d (used day H login d)

-- the answer to a request whose number isn't in H
abbrev pub answer : (ℕ → ℕ) → ℕ → List Entry → Request → Reply
answer day default H (Reserve id txn moment login count) =
    if_open H id txn moment login (granted_or_full id (used day H login (day moment)) (cap default H login (day moment)) count)
answer day default H (Settle id txn moment login count) =
    if_open H id txn moment login (settled_or_too_many id (held H (transaction id txn)) count)
answer day default H (Release id txn moment login) =
    if_open H id txn moment login (Released id (held H (transaction id txn)))
answer day default H (Limit id from_day asked login) =
    set_or_over day H id login (over day H login from_day asked)
answer day default H (Usage login d) =
    UsageReply login d (settled day H login d) (reserved day H login d) (cap default H login d)
answer day default H (ListRequest d after) =
    ListReply d (map (row day default H d) (page day H d after))
answer day default H (Retire id) = Retired id

-- H and the request with its answer
abbrev pub appended : (ℕ → ℕ) → ℕ → List Entry → Request → List Entry
appended day default H r = H ++ record { request = r; reply = answer day default H r } ∷ []

-- each request with its answer over the history before it; it knows nothing of repeats
abbrev pub build : (ℕ → ℕ) → ℕ → List Request → List Entry
build day default rs = fold (appended day default) [] rs

-- the entry with that number
abbrev pub stored : List Entry → Id → Option Entry
stored H id = find (λ e. has_id id e.request) H

-- the stored reply where the request is the same, Conflict where it differs, and the answer where
-- its number isn't in H
abbrev pub reply_by : (ℕ → ℕ) → ℕ → List Entry → Request → Id → Option Entry → Reply
reply_by day default H r id None = answer day default H r
reply_by day default H r id (Some e) = if same_request r e.request then e.reply else Conflict id

-- the same, by the number of the request: Old where its run is below the floor
abbrev pub reply_to : (ℕ → ℕ) → ℕ → List Entry → Request → Option Id → Reply
reply_to day default H r None = answer day default H r
reply_to day default H r (Some id) =
    if is_below (requests H) id then Old id else reply_by day default H r id (stored H id)

-- the reply to a request, over a history
abbrev pub reply : (ℕ → ℕ) → ℕ → List Entry → Request → Reply
reply day default H r = reply_to day default H r (id_of r)

-- an arrival of that number isn't answered as new: its run is below the floor, or it is stored
abbrev pub known_by : List Entry → Option Id → Bool
known_by H None = false
known_by H (Some id) = is_below (requests H) id || is_some (stored H id)

-- H after an arrival: a numbered request that is answered as new stands last in it, with its answer
abbrev pub with_arrival_by : (ℕ → ℕ) → ℕ → List Entry → Request → Option Id → List Entry
with_arrival_by day default H r None = H
with_arrival_by day default H r (Some id) = if known_by H (Some id) then H else appended day default H r

-- the same, by the number of the request
abbrev pub with_arrival : (ℕ → ℕ) → ℕ → List Entry → Request → List Entry
with_arrival day default H r = with_arrival_by day default H r (id_of r)

-- the history of arrivals
abbrev pub history_of : (ℕ → ℕ) → ℕ → List Request → List Entry
history_of day default arrivals = build day default (first arrivals)

-- the replies to arrivals, after earlier ones
abbrev pub replies_after : (ℕ → ℕ) → ℕ → List Request → List Request → List Reply
replies_after day default earlier [] = []
replies_after day default earlier (r ∷ rs) =
    reply day default (history_of day default earlier) r ∷ replies_after day default (earlier ++ r ∷ []) rs

-- each arrival's reply is that over the history of the arrivals before it
abbrev pub replies : (ℕ → ℕ) → ℕ → List Request → List Reply
replies day default arrivals = replies_after day default [] arrivals
