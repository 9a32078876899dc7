-- What is read of the tables for a request.
use Rattle.std.specs.Prelude.{◌≡◌, ℕ, ◌+◌, ◌≤◌, List, find, Bool, true, false, ◌&&◌, nat_lt, nat_le, Option, Some}
use Rattle.std.specs.Prelude.{None, Contains}
use Rattle.std.specs.List.{AllByRecursion}
use Rattle.mq_request.specs.declared.message.Request.{Request}
use Rattle.mq_request.specs.declared.message.Request.TheVariants.{Reserve, Settle, Release, Limit, Usage}
use Rattle.mq_request.specs.declared.message.Request.TheVariants.{List as ListRequest, Retire}
use Rattle.mq_request.specs.Same.{same_text}
use Rattle.mq_ledger.specs.History.{transaction}
use Rattle.mq_rows.specs.declared.record.UsageRecord.{UsageRecord}
use Rattle.mq_rows.specs.declared.record.LimitRecord.{LimitRecord}
use Rattle.mq_rows.specs.declared.plan.FoundRows.{FoundRows}
use Rattle.mq_rows.specs.Rows.{is_transaction, is_usage, is_limit, is_host}
use Rattle.mq_rows.specs.Tables.{Tables}
use Rattle.mq_request.specs.declared.message.Id.{Id}

-- the limit is the login's, and holds from that day or an earlier one on
abbrev pub is_due : List ℕ → ℕ → LimitRecord → Bool
is_due login day c = same_text login c.login && nat_le c.day day

-- of the rows that are due it is the latest; none where none is due
abbrev pub IsGoverning : List ℕ → ℕ → List LimitRecord → Option LimitRecord → Type 0
IsGoverning login day rows None = AllByRecursion (λ c. is_due login day c ≡ false) rows
IsGoverning login day rows (Some c) =
    Contains rows c × (is_due login day c ≡ true)
    × AllByRecursion (λ other. is_due login day other ≡ true → other.day ≤ c.day) rows

-- the day is the login's, that one or a later one, and more than the cap is used
abbrev pub is_over : List ℕ → ℕ → ℕ → UsageRecord → Bool
is_over login from cap u = same_text login u.login && (nat_le from u.day && nat_lt cap (u.reserved + u.settled))

-- of the rows that are over it is that of the first day; none where none is over
abbrev pub IsFirstOver : List ℕ → ℕ → ℕ → List UsageRecord → Option UsageRecord → Type 0
IsFirstOver login from cap rows None = AllByRecursion (λ u. is_over login from cap u ≡ false) rows
IsFirstOver login from cap rows (Some u) =
    Contains rows u × (is_over login from cap u ≡ true)
    × AllByRecursion (λ other. is_over login from cap other ≡ true → u.day ≤ other.day) rows

-- the rows of the transaction, and of the login and day
abbrev pub IsTransactionFound : Id → ℕ → List ℕ → ℕ → Tables → FoundRows → Type 0
IsTransactionFound id txn login day t f =
    (f.transaction ≡ find (is_transaction (transaction id txn)) t.transactions)
    × (f.usage ≡ find (is_usage login day) t.usage)

-- the same, and the limit that governs
abbrev pub IsReserveFound : Id → ℕ → List ℕ → ℕ → Tables → FoundRows → Type 0
IsReserveFound id txn login day t f =
    (f.transaction ≡ find (is_transaction (transaction id txn)) t.transactions)
    × (f.usage ≡ find (is_usage login day) t.usage)
    × IsGoverning login day t.limits f.governing

-- the first day past the cap, and the limit from that day on
abbrev pub IsLimitFound : List ℕ → ℕ → ℕ → Tables → FoundRows → Type 0
IsLimitFound login from cap t f =
    IsFirstOver login from cap t.usage f.over × (f.limit ≡ find (is_limit login from) t.limits)

-- what was found is what the tables have about the request
abbrev pub IsFound : (ℕ → ℕ) → Tables → Request → FoundRows → Type 0
IsFound day t (Reserve id txn moment login count) f = IsReserveFound id txn login (day moment) t f
IsFound day t (Settle id txn moment login count) f = IsTransactionFound id txn login (day moment) t f
IsFound day t (Release id txn moment login) f = IsTransactionFound id txn login (day moment) t f
IsFound day t (Limit id from_day asked login) f = IsLimitFound login from_day asked t f
IsFound day t (Usage login d) f = Unit {0}
IsFound day t (ListRequest d after) f = Unit {0}
IsFound day t (Retire id) f = f.floor ≡ find (is_host id.host) t.retired
