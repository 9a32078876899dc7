-- The reply to a numbered request whose number is new, and what is written with it, by what was
-- found in the tables.
use Rattle.std.specs.Prelude.{◌≡◌, ℕ, ◌+◌, ◌-◌, List, [], ◌∷◌, map, filter, Bool, true, false, not, ◌==◌, ◌&&◌, nat_le, if◌then◌else◌}
use Rattle.std.specs.Prelude.{Option, Some, None}
use Rattle.std.specs.List.{AllByRecursion}
use Rattle.std.specs.List.Sorted.{IsPermutation}
use Rattle.mq_request.specs.declared.message.Id.{Id}
use Rattle.mq_request.specs.declared.message.Request.{Request}
use Rattle.mq_request.specs.declared.message.Request.TheVariants.{Reserve, Settle, Release, Limit, Usage}
use Rattle.mq_request.specs.declared.message.Request.TheVariants.{List as ListRequest, Retire}
use Rattle.mq_request.specs.declared.message.Reply.{Reply}
use Rattle.mq_request.specs.declared.message.Reply.TheVariants.{Granted, Settled, Released, LimitSet, Over, Closed}
use Rattle.mq_request.specs.declared.message.Reply.TheVariants.{Mismatch, Bad, Retired}
use Rattle.mq_request.specs.Same.{same_text}
use Rattle.mq_ledger.specs.Answer.{granted_or_full, settled_or_too_many}
use Rattle.mq_rows.specs.declared.record.TransactionRecord.{TransactionRecord}
use Rattle.mq_rows.specs.declared.record.UsageRecord.{UsageRecord}
use Rattle.mq_rows.specs.declared.record.AnswerRecord.{AnswerRecord}
use Rattle.mq_rows.specs.declared.record.LimitRecord.{LimitRecord}
use Rattle.mq_rows.specs.declared.record.RetiredRecord.{RetiredRecord}
use Rattle.mq_rows.specs.declared.plan.FoundRows.{FoundRows}
use Rattle.mq_rows.specs.declared.plan.Plan.{Plan}
use Rattle.mq_rows.specs.declared.plan.Runs.{Runs}
use Rattle.mq_rows.specs.declared.plan.Write.{Write}
use Rattle.mq_rows.specs.declared.plan.Write.TheVariants.{Keep, Insert, Update}
use Rattle.mq_ledger.specs.History.{Transaction}
use Rattle.mq_rows.specs.Rows.{answer_of, is_transaction, is_usage, is_limit, is_host}
use Rattle.mq_lemmas.proofs.Lists.{In}

-- What was found, as numbers: nothing where there is no row.

-- no row has another login or moment
abbrev pub agrees_with : ℕ → List ℕ → Option TransactionRecord → Bool
agrees_with moment login None = true
agrees_with moment login (Some t) = (moment == t.moment) && same_text login t.login

-- a transaction that has a row and is closed
abbrev pub is_closed : Option TransactionRecord → Bool
is_closed None = false
is_closed (Some t) = t.closed

-- what the transaction holds
abbrev pub held_by : Option TransactionRecord → ℕ
held_by None = 0
held_by (Some t) = t.held

-- what the login has reserved on the day
abbrev pub reserved_by : Option UsageRecord → ℕ
reserved_by None = 0
reserved_by (Some u) = u.reserved

-- what it has used: reserved and settled together
abbrev pub used_by : Option UsageRecord → ℕ
used_by None = 0
used_by (Some u) = u.reserved + u.settled

-- the limit that governs, or the default
abbrev pub cap_by : ℕ → Option LimitRecord → ℕ
cap_by default None = default
cap_by default (Some c) = c.cap

-- The reply.

-- Mismatch where the row has another login or moment, Closed where it is closed, else that reply
abbrev pub if_row_open : Id → ℕ → List ℕ → Option TransactionRecord → Reply → Reply
if_row_open id moment login t a =
    if not (agrees_with moment login t) then Mismatch id else (if is_closed t then Closed id else a)

-- a limit, where that row is the first with more used
abbrev pub set_or_over_by : Id → Option UsageRecord → Reply
set_or_over_by id None = LimitSet id
set_or_over_by id (Some u) = Over id u.day (u.reserved + u.settled)

-- the reply to a numbered request
abbrev pub decided : ℕ → Request → FoundRows → Reply
decided default (Reserve id txn moment login count) f =
    if_row_open id moment login f.transaction (granted_or_full id (used_by f.usage) (cap_by default f.governing) count)
decided default (Settle id txn moment login count) f =
    if_row_open id moment login f.transaction (settled_or_too_many id (held_by f.transaction) count)
decided default (Release id txn moment login) f =
    if_row_open id moment login f.transaction (Released id (held_by f.transaction))
decided default (Limit id from_day asked login) f = set_or_over_by id f.over
decided default (Usage login day) f = Bad
decided default (ListRequest day after) f = Bad
decided default (Retire id) f = Retired id

-- What is written with it: a refusal changes no row, and a transaction's first request makes its row.

-- the row of a transaction before its first request is answered
abbrev pub fresh : (ℕ → ℕ) → Id → ℕ → ℕ → List ℕ → TransactionRecord
fresh day id txn moment login = record {
  host = id.host;
  run = id.run;
  txn = txn;
  login = login;
  moment = moment;
  day = day moment;
  held = 0;
  settled = 0;
  closed = false;
}

-- the reply changes how its transaction stands
abbrev pub moves : Reply → Bool
moves (Granted id used) = true
moves (Settled id count) = true
moves (Released id held) = true
moves _ = false

-- the row of a transaction after the reply to a request of that count: a refusal changes nothing
abbrev pub moved : ℕ → Reply → TransactionRecord → TransactionRecord
moved count (Granted id used) t = record t { held = t.held + count }
moved count (Settled id settled) t = record t { held = 0; settled = count; closed = true }
moved count (Released id held) t = record t { held = 0; closed = true }
moved count _ t = t

-- a row that isn't there is made, and one that is there is updated where it changes
abbrev pub moved_or_made : ℕ → Reply → TransactionRecord → Option TransactionRecord → Write TransactionRecord
moved_or_made count a new None = Insert (moved count a new)
moved_or_made count a new (Some t) = if moves a then Update (moved count a t) else Keep

-- what becomes of the row of a transaction
abbrev pub transaction_write : (ℕ → ℕ) → Request → Reply → Option TransactionRecord → Write TransactionRecord
transaction_write day (Reserve id txn moment login count) a t = moved_or_made count a (fresh day id txn moment login) t
transaction_write day (Settle id txn moment login count) a t = moved_or_made count a (fresh day id txn moment login) t
transaction_write day (Release id txn moment login) a t = moved_or_made 0 a (fresh day id txn moment login) t
transaction_write day _ a t = Keep

-- so many more are reserved
abbrev pub reserved_more : List ℕ → ℕ → ℕ → Option UsageRecord → Write UsageRecord
reserved_more login day count None = Insert (record { login = login; day = day; settled = 0; reserved = count })
reserved_more login day count (Some u) = Update (record u { reserved = u.reserved + count })

-- of what was held so many are settled, and none of it is reserved any more
abbrev pub freed : ℕ → ℕ → Option UsageRecord → Write UsageRecord
freed count held None = Keep
freed count held (Some u) =
    if held == 0 then Keep else Update (record u { settled = u.settled + count; reserved = u.reserved - held })

-- what becomes of the row of usage, where the transaction held so many
abbrev pub usage_write : (ℕ → ℕ) → Request → Reply → ℕ → Option UsageRecord → Write UsageRecord
usage_write day (Reserve id txn moment login count) (Granted id' used) held u = reserved_more login (day moment) count u
usage_write day (Settle id txn moment login count) (Settled id' settled) held u = freed count held u
usage_write day (Release id txn moment login) (Released id' released) held u = freed 0 held u
usage_write day _ _ held u = Keep

-- the limit of that login and day is set
abbrev pub set_limit_to : List ℕ → ℕ → ℕ → Option LimitRecord → Write LimitRecord
set_limit_to login day cap None = Insert (record { login = login; day = day; cap = cap })
set_limit_to login day cap (Some c) = Update (record c { cap = cap })

-- what becomes of the row of a limit
abbrev pub limit_write : Request → Reply → Option LimitRecord → Write LimitRecord
limit_write (Limit id from_day asked login) (LimitSet id') c = set_limit_to login from_day asked c
limit_write _ _ c = Keep

-- the floor that was found, and 0 where there is no row
abbrev pub floor_by : Option RetiredRecord → ℕ
floor_by None = 0
floor_by (Some r) = r.run

-- the runs that a retire retires: those of its host from the floor before on, below its own
abbrev pub given_up_by : Request → FoundRows → Option Runs
given_up_by (Retire id) f = Some (record { host = id.host; from = floor_by f.floor; to = id.run - 1 })
given_up_by _ f = None

-- the floor of that host is that run
abbrev pub raised_to : Id → Option RetiredRecord → Write RetiredRecord
raised_to id None = Insert (record { host = id.host; run = id.run })
raised_to id (Some r) = Update (record r { run = id.run })

-- what becomes of the row of a host's floor
abbrev pub retired_write : Request → Option RetiredRecord → Write RetiredRecord
retired_write (Retire id) r = raised_to id r
retired_write _ r = Keep

-- all that is written with that reply
abbrev pub written : (ℕ → ℕ) → ℕ → Request → FoundRows → Reply → Plan
written day arrivals r f a = record {
  reply = a;
  answer = answer_of (arrivals + 1) (record { request = r; reply = a });
  arrivals = arrivals + 1;
  given_up = given_up_by r f;
  transaction = transaction_write day r a f.transaction;
  usage = usage_write day r a (held_by f.transaction) f.usage;
  limit = limit_write r a f.limit;
  retired = retired_write r f.floor;
}

-- what a numbered request whose number is new comes to, where so many were answered
abbrev pub planned : (ℕ → ℕ) → ℕ → ℕ → Request → FoundRows → Plan
planned day default arrivals r f = written day arrivals r f (decided default r f)

-- Rows that no legal history has.

-- what is used is in range, and so many of it may be held
abbrev pub fits_held : ℕ → Option UsageRecord → Bool
fits_held held u = nat_le (used_by u) 1000000 && nat_le held (reserved_by u)

-- what is used is in range, and what the transaction holds is reserved
abbrev pub fits : Option TransactionRecord → Option UsageRecord → Bool
fits t u = fits_held (held_by t) u

-- so they are where the transaction is open to the request, and the limit is in range
abbrev pub fits_if_open : ℕ → List ℕ → ℕ → Option TransactionRecord → Option UsageRecord → Bool
fits_if_open moment login cap t u =
    if agrees_with moment login t && not (is_closed t) then fits t u && nat_le cap 1000000 else true

-- the day and what is used on it are in range
abbrev pub is_day_over : Option UsageRecord → Bool
is_day_over None = true
is_day_over (Some u) = nat_le u.day 376200 && nat_le (u.reserved + u.settled) 1000000

-- the rows that were found may be those of a legal history
abbrev pub may_be_found : ℕ → Request → FoundRows → Bool
may_be_found default (Reserve id txn moment login count) f =
    fits_if_open moment login (cap_by default f.governing) f.transaction f.usage
may_be_found default (Settle id txn moment login count) f = fits_if_open moment login 0 f.transaction f.usage
may_be_found default (Release id txn moment login) f = fits_if_open moment login 0 f.transaction f.usage
may_be_found default (Limit id from_day asked login) f = is_day_over f.over
may_be_found default _ f = true

-- What a write makes of the rows of a table.

-- One more row, whose key no row has; P holds of the rows then.
pub record Inserts {R : Type 0} (same : R → R → Bool) (new : R) (rows : List R) (P : List R → Type 0) : Type 0 where
  pub absent : AllByRecursion (λ other. same new other ≡ false) rows
  pub after : P (new ∷ rows)

-- One row has the key, and `set` makes it the new one; P holds of the rows then.
pub record Updates {R : Type 0} (same : R → R → Bool) (set : R → R → R) (new : R) (rows : List R) (P : List R → Type 0)
    : Type 0 where
  pub was : R
  pub rest : List R
  pub order : IsPermutation (was ∷ rest) rows
  pub there : same new was ≡ true
  pub alone : AllByRecursion (λ other. same new other ≡ false) rest
  pub after : P (set new was ∷ rest)

-- The write can be made, and P holds of the rows then. `same` compares keys, and `set` gives a row the
-- new one's other fields.
abbrev pub Leads : {R : Type 0} → (R → R → Bool) → (R → R → R) → Write R → List R → (List R → Type 0) → Type 0
Leads same set Keep rows P = P rows
Leads same set (Insert new) rows P = Inserts same new rows P
Leads same set (Update new) rows P = Updates same set new rows P

-- Keys, and what an update of a row sets.

-- the transaction that a row is of
abbrev pub key_of : TransactionRecord → Transaction
key_of r = record { host = r.host; run = r.run; txn = r.txn }

-- two rows of one transaction
abbrev pub same_key : TransactionRecord → TransactionRecord → Bool
same_key new other = is_transaction (key_of new) other

-- a transaction's row with what it holds and settled now, and whether it is closed
abbrev pub set_transaction : TransactionRecord → TransactionRecord → TransactionRecord
set_transaction new was = record was { held = new.held; settled = new.settled; closed = new.closed }

-- two rows of one login and day
abbrev pub same_day : UsageRecord → UsageRecord → Bool
same_day new other = is_usage new.login new.day other

-- the row of a login and day with what is settled and reserved now
abbrev pub set_usage : UsageRecord → UsageRecord → UsageRecord
set_usage new was = record was { settled = new.settled; reserved = new.reserved }

-- two limits of one login from one day on
abbrev pub same_from : LimitRecord → LimitRecord → Bool
same_from new other = is_limit new.login new.day other

-- a limit with the cap that it has now
abbrev pub set_limit : LimitRecord → LimitRecord → LimitRecord
set_limit new was = record was { cap = new.cap }

-- two floors of one host
abbrev pub same_host : RetiredRecord → RetiredRecord → Bool
same_host new other = is_host new.host other

-- a host's floor at the run where it is now
abbrev pub set_run : RetiredRecord → RetiredRecord → RetiredRecord
set_run new was = record was { run = new.run }

-- What retiring runs does to the rows of their transactions and answers.

-- the run of that host is one of them
abbrev pub is_among : Runs → List ℕ → ℕ → Bool
is_among runs host run = same_text runs.host host && (nat_le runs.from run && nat_le run runs.to)

-- the transaction is open, and of one of these runs
abbrev pub is_open_in : Runs → TransactionRecord → Bool
is_open_in runs t = same_text runs.host t.host && (nat_le runs.from t.run && (nat_le t.run runs.to && not t.closed))

-- its row once its run is retired: what it held is settled
abbrev pub abandoned_row : TransactionRecord → TransactionRecord
abandoned_row t = record t { held = 0; settled = t.held; closed = true }

-- these are the open transactions of the runs that are retired, in any order
abbrev pub AreToClose : Option Runs → List TransactionRecord → List TransactionRecord → Type 0
AreToClose None rows these = these ≡ []
AreToClose (Some runs) rows these = IsPermutation these (filter (is_open_in runs) rows)

-- no row passes, or this is one that does
abbrev pub IsOneIn : {R : Type 0} → (R → Bool) → List R → Option R → Type 0
IsOneIn passes rows None = AllByRecursion (λ r. passes r ≡ false) rows
IsOneIn passes rows (Some r) = In r rows × (passes r ≡ true)

-- Each of these can be closed after the one before, with what it held settled on its login's day, whatever row is found
-- there; P holds of the rows then.
abbrev pub LeadsAll : List TransactionRecord → List TransactionRecord → List UsageRecord
    → (List TransactionRecord → List UsageRecord → Type 0) → Type 0
LeadsAll [] rows usage P = P rows usage
LeadsAll (was ∷ rest) rows usage P =
    (u : Option UsageRecord) → IsOneIn (is_usage was.login was.day) usage u
    → Leads same_key set_transaction (Update (abandoned_row was)) rows (λ after.
    Leads same_day set_usage (freed was.held was.held u) usage (λ used. LeadsAll rest after used P))

-- an answer of one of these runs keeps no reply
abbrev pub cleared_in : Runs → AnswerRecord → AnswerRecord
cleared_in runs a = if is_among runs a.id.host a.id.run then record a { reply = [] } else a

-- so for all answers, where runs are retired
abbrev pub cleared : Option Runs → List AnswerRecord → List AnswerRecord
cleared None answers = answers
cleared (Some runs) answers = map (cleared_in runs) answers
