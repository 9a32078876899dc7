-- Reading the fields of a body from its front, one after another.
use Rattle.std.specs.Prelude.{◌≡◌, ℕ, zero, suc, List, [], ◌∷◌, ◌++◌, length, take, drop, Option, Some, None}
use Rattle.std.specs.Prelude.{Bool, ◌&&◌, ◌==◌, nat_le, nat_lt, if◌then◌else◌}
use Rattle.std.specs.List.{list_all, flat_map}
use Rattle.std.specs.Int.{Width, w32, w64, byte_len, from_be_bytes, to_be_bytes}
use Rattle.mq_frame.specs.declared.format.TheConstants.{RESERVE, SETTLE, RELEASE, LIMIT, USAGE, LIST, RETIRE}
use Rattle.mq_frame.specs.declared.format.TheConstants.{GRANTED, FULL, SETTLED, RELEASED, LIMIT_SET, OVER, CLOSED}
use Rattle.mq_frame.specs.declared.format.TheConstants.{MISMATCH, TOO_MANY, CONFLICT}
use Rattle.mq_frame.specs.declared.format.TheConstants.{USAGE_REPLY, LIST_REPLY, RETRY, BAD, RETIRED, OLD}
use Rattle.mq_request.specs.declared.bounds.TheConstants.{HOST_LIMIT, LOGIN_LIMIT, LAST_RUN, LAST_ORDINAL, FIRST_MOMENT}
use Rattle.mq_request.specs.declared.bounds.TheConstants.{LAST_MOMENT, LAST_DAY, COUNT_LIMIT, AMOUNT_LIMIT, ROW_LIMIT}
use Rattle.mq_request.specs.Range.{between, is_host_byte}
use Rattle.mq_frame.specs.Spelling.{with_length}
use Rattle.mq_request.specs.declared.message.Id.{Id}
use Rattle.mq_request.specs.declared.message.Request.{Request}
use Rattle.mq_request.specs.declared.message.Request.TheVariants.{Reserve, Settle, Release}
use Rattle.mq_request.specs.declared.message.Request.TheVariants.{Limit, Usage, List as ListRequest, Retire}
use Rattle.mq_request.specs.declared.message.Reply.{Reply}
use Rattle.mq_request.specs.declared.message.Reply.TheVariants.{Granted, Full, Settled, Released, LimitSet, Over, Closed}
use Rattle.mq_request.specs.declared.message.Reply.TheVariants.{Mismatch, TooMany, Conflict, Usage as UsageReply}
use Rattle.mq_request.specs.declared.message.Reply.TheVariants.{List as ListReply, Retry, Bad, Retired, Old}
use Rattle.mq_request.specs.declared.usage.UsageRow.{UsageRow}

-- one reading and then the next, by what the first gave; nothing where the first gave nothing
infixl 10 ◌>>=◌
abbrev pub ◌>>=◌ : {A B : Type 0} → Option A → (A → Option B) → Option B
(Some x) >>= f = f x
None >>= f = None

-- what a function gave, seen by view, is what reading gives
abbrev pub Reads : {X Y : Type 0} → (X → Y) → Option X → Option Y → Type 0
Reads view None read = read ≡ None
Reads view (Some x) read = read ≡ Some (view x)

-- a field of a body: how a value is spelled, and how one is read, with the bytes that follow
pub record Field (X : Type 0) : Type 0 where
  pub spell : X → List ℕ
  pub read : List ℕ → Option (X × List ℕ)

-- what was read, where its value passes a test
abbrev pub if_passes : {X : Type 0} → (X → Bool) → X × List ℕ → Option (X × List ℕ)
if_passes p x = if p x.0 then Some x else None

-- the highest byte first
abbrev pub number_at : Width → ℕ → ℕ → List ℕ → Option (ℕ × List ℕ)
number_at w low high bytes =
    if nat_lt (length bytes) (byte_len w) then None
    else if_passes (between low high) (from_be_bytes w (take (byte_len w) bytes), drop (byte_len w) bytes)

-- a number from low to high, in as many bytes as the width has
abbrev pub number : Width → ℕ → ℕ → Field ℕ
number w low high = record { spell = to_be_bytes w; read = number_at w low high }

-- a byte of length, and that many bytes
abbrev pub text_at : ℕ → ℕ → List ℕ → Option (List ℕ × List ℕ)
text_at low high [] = None
text_at low high (n ∷ bytes) =
    if between low high n && nat_le n (length bytes) then Some (take n bytes, drop n bytes) else None

-- a text of low to high bytes
abbrev pub text : ℕ → ℕ → Field (List ℕ)
text low high = record { spell = with_length; read = text_at low high }

-- the field, where its value passes a test
abbrev pub where_so : {X : Type 0} → (X → Bool) → Field X → Field X
where_so p f = record { spell = f.spell; read = λ bytes. f.read bytes >>= if_passes p }

-- one field and then another
abbrev pub pair : {X Y : Type 0} → Field X → Field Y → Field (X × Y)
pair f g = record {
  spell = λ x. f.spell x.0 ++ g.spell x.1;
  read = λ bytes. f.read bytes >>= λ a. (g.read a.1 >>= λ b. Some ((a.0, b.0), b.1));
}

-- the field, with its value under another form
abbrev pub made : {X Y : Type 0} → (X → Y) → (Y → X) → Field X → Field Y
made to from f = record {
  spell = λ y. f.spell (from y);
  read = λ bytes. f.read bytes >>= λ x. Some (to x.0, x.1);
}

-- so many of the field
abbrev pub times_at : {X : Type 0} → Field X → ℕ → List ℕ → Option (List X × List ℕ)
times_at f zero bytes = Some ([], bytes)
times_at f (suc n) bytes = f.read bytes >>= λ a. (times_at f n a.1 >>= λ b. Some (a.0 ∷ b.0, b.1))

-- a byte of count, and that many of the field
abbrev pub counted_at : {X : Type 0} → ℕ → Field X → List ℕ → Option (List X × List ℕ)
counted_at high f [] = None
counted_at high f (n ∷ bytes) = if nat_le n high then times_at f n bytes else None

-- at most high of the field, after a byte of their count
abbrev pub counted : {X : Type 0} → ℕ → Field X → Field (List X)
counted high f = record { spell = λ xs. length xs ∷ flat_map f.spell xs; read = counted_at high f }

-- the field is all of the bytes
abbrev pub whole : {X : Type 0} → Field X → List ℕ → Option X
whole f bytes = f.read bytes >>= λ x. (if length x.1 == 0 then Some x.0 else None)

-- a host: 1 to 64 bytes, each an ASCII letter, a digit, `.` or `-`
abbrev pub host : Field (List ℕ)
host = where_so (list_all is_host_byte) (text 1 HOST_LIMIT)

-- a login: 1 to 255 bytes of any value
abbrev pub login : Field (List ℕ)
login = text 1 LOGIN_LIMIT

-- a login, or nothing
abbrev pub after : Field (List ℕ)
after = text 0 LOGIN_LIMIT

-- the run of a host's filter, in 8 bytes
abbrev pub run : Field ℕ
run = number w64 1 LAST_RUN

-- the number of a request or of a transaction in its run, in 4 bytes
abbrev pub ordinal : Field ℕ
ordinal = number w32 1 LAST_ORDINAL

-- when a transaction began, a second in 8 bytes
abbrev pub moment : Field ℕ
moment = number w64 FIRST_MOMENT LAST_MOMENT

-- the recipients of one request, in 4 bytes
abbrev pub count : Field ℕ
count = number w32 1 COUNT_LIMIT

-- recipients of a login and day or of a transaction, or a limit, in 4 bytes
abbrev pub amount : Field ℕ
amount = number w32 0 AMOUNT_LIMIT

-- a number of days from 1970-01-01 on, in 4 bytes
abbrev pub day : Field ℕ
day = number w32 0 LAST_DAY

-- an id from its fields in order, and back
abbrev pub id_of : List ℕ × (ℕ × ℕ) → Id
id_of (name, (of_run, place)) = record { host = name; run = of_run; number = place }

abbrev pub parts_of_id : Id → List ℕ × (ℕ × ℕ)
parts_of_id i = (i.host, (i.run, i.number))

-- host, run and number
abbrev pub id : Field Id
id = made id_of parts_of_id (pair host (pair run ordinal))

-- a row from its fields in order, and back
abbrev pub row_of : List ℕ × (ℕ × (ℕ × ℕ)) → UsageRow
row_of (name, (settled, (reserved, cap))) = record { login = name; settled = settled; reserved = reserved; cap = cap }

abbrev pub parts_of_row : UsageRow → List ℕ × (ℕ × (ℕ × ℕ))
parts_of_row r = (r.login, (r.settled, (r.reserved, r.cap)))

-- login, settled, reserved and cap
abbrev pub row : Field UsageRow
row = made row_of parts_of_row (pair login (pair amount (pair amount amount)))

-- at most 100 rows
abbrev pub page : Field (List UsageRow)
page = counted ROW_LIMIT row

-- what three kinds of requests begin with
pub record Transaction : Type 0 where
  pub id : Id
  pub txn : ℕ
  pub moment : ℕ
  pub login : List ℕ

-- it from its fields in order, and back
abbrev pub transaction_of : Id × (ℕ × (ℕ × List ℕ)) → Transaction
transaction_of (i, (place, (begun, name))) = record { id = i; txn = place; moment = begun; login = name }

abbrev pub parts_of_transaction : Transaction → Id × (ℕ × (ℕ × List ℕ))
parts_of_transaction t = (t.id, (t.txn, (t.moment, t.login)))

-- id, txn, moment and login
abbrev pub transaction : Field Transaction
transaction = made transaction_of parts_of_transaction (pair id (pair ordinal (pair moment login)))

-- each kind of request, from its fields
abbrev pub reserve_of : Transaction × ℕ → Request
reserve_of (t, recipients) = Reserve t.id t.txn t.moment t.login recipients

abbrev pub settle_of : Transaction × ℕ → Request
settle_of (t, recipients) = Settle t.id t.txn t.moment t.login recipients

abbrev pub release_of : Transaction → Request
release_of t = Release t.id t.txn t.moment t.login

abbrev pub limit_of : Id × (ℕ × (ℕ × List ℕ)) → Request
limit_of (i, (from_day, (cap, name))) = Limit i from_day cap name

abbrev pub usage_of : List ℕ × ℕ → Request
usage_of (name, on_day) = Usage name on_day

abbrev pub list_of : ℕ × List ℕ → Request
list_of (on_day, behind) = ListRequest on_day behind

-- each kind of reply that has more than one field, from them
abbrev pub granted_of : Id × ℕ → Reply
granted_of (i, used) = Granted i used

abbrev pub full_of : Id × (ℕ × ℕ) → Reply
full_of (i, (used, cap)) = Full i used cap

abbrev pub settled_of : Id × ℕ → Reply
settled_of (i, recipients) = Settled i recipients

abbrev pub released_of : Id × ℕ → Reply
released_of (i, held) = Released i held

abbrev pub over_of : Id × (ℕ × ℕ) → Reply
over_of (i, (on_day, used)) = Over i on_day used

abbrev pub too_many_of : Id × ℕ → Reply
too_many_of (i, held) = TooMany i held

abbrev pub usage_reply_of : List ℕ × (ℕ × (ℕ × (ℕ × ℕ))) → Reply
usage_reply_of (name, (on_day, (settled, (reserved, cap)))) = UsageReply name on_day settled reserved cap

abbrev pub list_reply_of : ℕ × List UsageRow → Reply
list_reply_of (on_day, rows) = ListReply on_day rows

-- the value that is made of a field, which is all of the bytes
abbrev pub made_of : {X V : Type 0} → (X → V) → Field X → List ℕ → Option V
made_of make f bytes = whole f bytes >>= λ x. Some (make x)

-- a value that needs no bytes
abbrev pub if_none_left : {X : Type 0} → X → List ℕ → Option X
if_none_left x bytes = if length bytes == 0 then Some x else None

-- the request of this kind, whose fields are all of the bytes
abbrev pub request_of_kind : ℕ → List ℕ → Option Request
request_of_kind kind bytes =
    if kind == RESERVE then made_of reserve_of (pair transaction count) bytes
    else (if kind == SETTLE then made_of settle_of (pair transaction count) bytes
    else (if kind == RELEASE then made_of release_of transaction bytes
    else (if kind == LIMIT then made_of limit_of (pair id (pair day (pair amount login))) bytes
    else (if kind == USAGE then made_of usage_of (pair login day) bytes
    else (if kind == LIST then made_of list_of (pair day after) bytes
    else (if kind == RETIRE then made_of Retire id bytes
    else None))))))

-- the request that a body spells: its first byte is the kind
abbrev pub request_at : List ℕ → Option Request
request_at [] = None
request_at (kind ∷ bytes) = request_of_kind kind bytes

-- the reply of this kind that carries an id, whose fields are all of the bytes
abbrev pub numbered_reply : ℕ → List ℕ → Option Reply
numbered_reply kind bytes =
    if kind == GRANTED then made_of granted_of (pair id amount) bytes
    else (if kind == FULL then made_of full_of (pair id (pair amount amount)) bytes
    else (if kind == SETTLED then made_of settled_of (pair id count) bytes
    else (if kind == RELEASED then made_of released_of (pair id amount) bytes
    else (if kind == LIMIT_SET then made_of LimitSet id bytes
    else (if kind == OVER then made_of over_of (pair id (pair day amount)) bytes
    else (if kind == CLOSED then made_of Closed id bytes
    else (if kind == MISMATCH then made_of Mismatch id bytes
    else (if kind == TOO_MANY then made_of too_many_of (pair id amount) bytes
    else (if kind == CONFLICT then made_of Conflict id bytes
    else (if kind == RETIRED then made_of Retired id bytes
    else (if kind == OLD then made_of Old id bytes
    else None)))))))))))

-- the reply of this kind, whose fields are all of the bytes
abbrev pub reply_of_kind : ℕ → List ℕ → Option Reply
reply_of_kind kind bytes =
    if kind == USAGE_REPLY then made_of usage_reply_of (pair login (pair day (pair amount (pair amount amount)))) bytes
    else (if kind == LIST_REPLY then made_of list_reply_of (pair day page) bytes
    else (if kind == RETRY then if_none_left Retry bytes
    else (if kind == BAD then if_none_left Bad bytes
    else numbered_reply kind bytes)))

-- the reply that a body spells: its first byte is the kind
abbrev pub reply_at : List ℕ → Option Reply
reply_at [] = None
reply_at (kind ∷ bytes) = reply_of_kind kind bytes
