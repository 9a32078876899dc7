-- What a history says of transactions, and of what a login has used on a day.
--
-- A history is a list of entries, oldest first: numbered requests, each with its reply. `day` gives
-- the day of a moment.
use Rattle.std.specs.Prelude.{◌≡◌, ℕ, ◌+◌, List, map, find, sum_by, Bool, true, false, ◌==◌, ◌&&◌, ◌||◌, not, nat_lt}
use Rattle.std.specs.Prelude.{if◌then◌else◌, Option, Some, None}
use Rattle.std.specs.List.{list_any}
use Rattle.mq_request.specs.declared.message.Id.{Id}
use Rattle.mq_request.specs.declared.message.Request.{Request}
use Rattle.mq_request.specs.declared.message.Request.TheVariants.{Reserve, Settle, Release, Limit, Usage}
use Rattle.mq_request.specs.declared.message.Request.TheVariants.{List as ListRequest, Retire}
use Rattle.mq_request.specs.declared.message.Reply.{Reply}
use Rattle.mq_request.specs.declared.message.Reply.TheVariants.{Granted, Settled, Released, Retired}
use Rattle.mq_request.specs.Same.{same_text}
use Rattle.mq_ledger.specs.declared.entry.Entry.{Entry}
use Rattle.mq_ledger.specs.Arrivals.{floor}

-- the requests of a history
abbrev pub requests : List Entry → List Request
requests H = map (λ e. e.request) H

-- a transaction is named by its host, its run and its number there
pub record Transaction : Type 0 where
  pub host : List ℕ
  pub run : ℕ
  pub txn : ℕ

-- the transaction of that number in the host and run of a request
abbrev pub transaction : Id → ℕ → Transaction
transaction id txn = record { host = id.host; run = id.run; txn = txn }

-- the same host, run and number
abbrev pub same_transaction : Transaction → Transaction → Bool
same_transaction t u = same_text t.host u.host && ((t.run == u.run) && (t.txn == u.txn))

-- the moment of a reserve, settle or release
abbrev pub moment_of : Request → ℕ
moment_of (Reserve id txn moment login count) = moment
moment_of (Settle id txn moment login count) = moment
moment_of (Release id txn moment login) = moment
moment_of _ = 0

-- the request is a reserve, settle or release of the transaction
abbrev pub is_of : Transaction → Request → Bool
is_of t (Reserve id txn moment login count) = same_transaction t (transaction id txn)
is_of t (Settle id txn moment login count) = same_transaction t (transaction id txn)
is_of t (Release id txn moment login) = same_transaction t (transaction id txn)
is_of t (Limit id from_day cap login) = false
is_of t (Usage login day) = false
is_of t (ListRequest day after) = false
is_of t (Retire id) = false

-- the request is a reserve, settle or release of that moment and login
abbrev pub is_at : ℕ → List ℕ → Request → Bool
is_at moment login (Reserve id txn moment' login' count) = (moment == moment') && same_text login login'
is_at moment login (Settle id txn moment' login' count) = (moment == moment') && same_text login login'
is_at moment login (Release id txn moment' login') = (moment == moment') && same_text login login'
is_at moment login (Limit id from_day cap login') = false
is_at moment login (Usage login' day) = false
is_at moment login (ListRequest day after) = false
is_at moment login (Retire id) = false

-- the first entry of the transaction, whatever its reply: it gives the login and the moment
abbrev pub named : List Entry → Transaction → Option Entry
named H t = find (λ e. is_of t e.request) H

-- no entry named another login or moment
abbrev pub agrees : ℕ → List ℕ → Option Entry → Bool
agrees moment login None = true
agrees moment login (Some e) = is_at moment login e.request

-- Settled or Released
abbrev pub closes : Reply → Bool
closes (Settled id count) = true
closes (Released id held) = true
closes _ = false

-- an entry of the transaction was replied Settled or Released
abbrev pub ended : List Entry → Transaction → Bool
ended H t = list_any (λ e. is_of t e.request && closes e.reply) H

-- its run is below the floor of its host
abbrev pub has_retired_run : List Entry → Transaction → Bool
has_retired_run H t = nat_lt t.run (floor (requests H) t.host)

-- the request is a retire that retires the run of the transaction
abbrev pub retires : Request → Transaction → Bool
retires (Retire id) t = same_text t.host id.host && nat_lt t.run id.run
retires _ t = false

-- its run is retired, or it was settled or released
abbrev pub closed : List Entry → Transaction → Bool
closed H t = has_retired_run H t || ended H t

-- a retire alone closed it
abbrev pub abandoned : List Entry → Transaction → Bool
abandoned H t = has_retired_run H t && not (ended H t)

-- the transaction is open to requests of that moment and login
pub record IsOpenTo (moment : ℕ) (login : List ℕ) (H : List Entry) (t : Transaction) : Type 0 where
  pub agreed : agrees moment login (named H t) ≡ true
  pub open_still : closed H t ≡ false

-- the count of a granted reserve
abbrev pub granted : Request → Reply → ℕ
granted (Reserve id txn moment login count) (Granted id' used) = count
granted _ _ = 0

-- the count of a settled settle
abbrev pub counted : Request → Reply → ℕ
counted (Settle id txn moment login count) (Settled id' count') = count
counted _ _ = 0

-- the sum of counts of the transaction's granted reserves
abbrev pub granted_in : List Entry → Transaction → ℕ
granted_in H t = sum_by (λ e. if is_of t e.request then granted e.request e.reply else 0) H

-- the same, and nothing once the transaction is closed
abbrev pub held : List Entry → Transaction → ℕ
held H t = if closed H t then 0 else granted_in H t

-- the sum of counts of the transaction's settled settles
abbrev pub counted_in : List Entry → Transaction → ℕ
counted_in H t = sum_by (λ e. if is_of t e.request then counted e.request e.reply else 0) H

-- the same, and what it was granted where a retire alone closed it
abbrev pub settled_in : List Entry → Transaction → ℕ
settled_in H t = counted_in H t + (if abandoned H t then granted_in H t else 0)

-- the request is a reserve or settle of that login and day
abbrev pub concerns : (ℕ → ℕ) → List ℕ → ℕ → Request → Bool
concerns day l d (Reserve id txn moment login count) = same_text l login && (day moment == d)
concerns day l d (Settle id txn moment login count) = same_text l login && (day moment == d)
concerns day l d _ = false

-- the request is a reserve whose transaction isn't closed in H
abbrev pub is_open : List Entry → Request → Bool
is_open H (Reserve id txn moment login count) = not (closed H (transaction id txn))
is_open H _ = false

-- what the entry reserves of that login and day, as H stands
abbrev pub reserved_of : (ℕ → ℕ) → List Entry → List ℕ → ℕ → Entry → ℕ
reserved_of day H l d e = if concerns day l d e.request && is_open H e.request then granted e.request e.reply else 0

-- the request is a reserve whose transaction a retire alone closed in H
abbrev pub is_abandoned : List Entry → Request → Bool
is_abandoned H (Reserve id txn moment login count) = abandoned H (transaction id txn)
is_abandoned H _ = false

-- what the entry settles of that login and day, as H stands
abbrev pub settled_of : (ℕ → ℕ) → List Entry → List ℕ → ℕ → Entry → ℕ
settled_of day H l d e =
    if concerns day l d e.request
    then counted e.request e.reply + (if is_abandoned H e.request then granted e.request e.reply else 0)
    else 0

-- the sum of counts of the granted reserves of that login and day whose transactions aren't closed in H
abbrev pub reserved : (ℕ → ℕ) → List Entry → List ℕ → ℕ → ℕ
reserved day H l d = sum_by (reserved_of day H l d) H

-- the sum of counts of the settled settles of that login and day, and of the granted reserves whose transactions a
-- retire alone closed in H
abbrev pub settled : (ℕ → ℕ) → List Entry → List ℕ → ℕ → ℕ
settled day H l d = sum_by (settled_of day H l d) H

-- what the login has used on that day
abbrev pub used : (ℕ → ℕ) → List Entry → List ℕ → ℕ → ℕ
used day H l d = reserved day H l d + settled day H l d

-- what an entry after H grants to that login on that day
abbrev pub gained : (ℕ → ℕ) → List ℕ → ℕ → Request → Reply → ℕ
gained day l d r a = if concerns day l d r then granted r a else 0

-- the request is a reserve of a run that the other retires
abbrev pub is_retired_by : Request → Request → Bool
is_retired_by r (Reserve id txn moment login count) = retires r (transaction id txn)
is_retired_by r _ = false

-- what of that login and day is reserved by the runs that a request retires
abbrev pub reserved_by_retired : (ℕ → ℕ) → List Entry → List ℕ → ℕ → Request → ℕ
reserved_by_retired day H l d r = sum_by (λ e. if is_retired_by r e.request then reserved_of day H l d e else 0) H

-- what an entry after H ends of what the login has reserved on that day: what its transaction holds, where it
-- closes it; of a retire what the runs that it retires have reserved
abbrev pub freed : (ℕ → ℕ) → List Entry → List ℕ → ℕ → Request → Reply → ℕ
freed day H l d (Settle id txn moment login count) (Settled id' count') =
    if same_text l login && (day moment == d) then held H (transaction id txn) else 0
freed day H l d (Release id txn moment login) (Released id' n) =
    if same_text l login && (day moment == d) then held H (transaction id txn) else 0
freed day H l d (Retire id) (Retired id') = reserved_by_retired day H l d (Retire id)
freed day H l d _ _ = 0

-- what an entry after H settles of that login and day
abbrev pub settles : (ℕ → ℕ) → List Entry → List ℕ → ℕ → Request → Reply → ℕ
settles day H l d (Settle id txn moment login count) (Settled id' count') =
    if same_text l login && (day moment == d) then count else 0
settles day H l d (Retire id) (Retired id') = reserved_by_retired day H l d (Retire id)
settles day H l d _ _ = 0
