-- What is read and replied of what logins have used.
use Rattle.std.specs.Prelude.{◌≡◌, ℕ, List, [], ◌∷◌, Bool, true, false, ◌==◌, ◌&&◌, nat_le, Option, Some, None}
use Rattle.std.specs.Prelude.{Contains, map}
use Rattle.std.specs.List.{AllByRecursion}
use Rattle.mq_request.specs.declared.message.Reply.{Reply}
use Rattle.mq_request.specs.declared.message.Reply.TheVariants.{Usage as UsageReply}
use Rattle.mq_request.specs.declared.usage.UsageRow.{UsageRow}
use Rattle.mq_ledger.specs.Page.{below}
use Rattle.mq_rows.specs.declared.record.UsageRecord.{UsageRecord}
use Rattle.mq_rows.specs.declared.record.LimitRecord.{LimitRecord}
use Rattle.mq_rows.specs.Plan.{reserved_by, cap_by}

-- what the row has settled, and 0 where there is no row
abbrev pub settled_by : Option UsageRecord → ℕ
settled_by None = 0
settled_by (Some u) = u.settled

-- what the login has used on that day, and its limit
abbrev pub usage_reply_by : ℕ → List ℕ → ℕ → Option UsageRecord → Option LimitRecord → Reply
usage_reply_by default login day u c = UsageReply login day (settled_by u) (reserved_by u) (cap_by default c)

-- the same as a row of a page
abbrev pub page_row_by : ℕ → UsageRecord → Option LimitRecord → UsageRow
page_row_by default u c = record { login = u.login; settled = u.settled; reserved = u.reserved; cap = cap_by default c }

-- the amounts are in range
abbrev pub are_amounts : ℕ → ℕ → ℕ → Bool
are_amounts settled reserved cap = nat_le settled 1000000 && (nat_le reserved 1000000 && nat_le cap 1000000)

-- the row is of that day, and its login above that one
abbrev pub is_above : ℕ → List ℕ → UsageRecord → Bool
is_above day after u = (day == u.day) && below after u.login

-- of the rows that are above it is the one with the least login; none where none is above
abbrev pub IsNext : ℕ → List ℕ → List UsageRecord → Option UsageRecord → Type 0
IsNext day after rows None = AllByRecursion (λ u. is_above day after u ≡ false) rows
IsNext day after rows (Some u) =
    Contains rows u × (is_above day after u ≡ true)
    × AllByRecursion (λ other. is_above day after other ≡ true → below other.login u.login ≡ false) rows

-- of the logins of any day that are above it is the least one; none where none is above
abbrev pub IsNextLogin : List ℕ → List UsageRecord → Option (List ℕ) → Type 0
IsNextLogin after rows None = AllByRecursion (λ u. below after u.login ≡ false) rows
IsNextLogin after rows (Some login) =
    Contains (map (λ u. u.login) rows) login × (below after login ≡ true)
    × AllByRecursion (λ other. below after other.login ≡ true → below other.login login ≡ false) rows

-- the last login of a page, and what it begins after where it has none
abbrev pub behind : List ℕ → List UsageRecord → List ℕ
behind after [] = after
behind after (u ∷ us) = behind u.login us

-- each of them is the next one after the one before
abbrev pub AreNext : ℕ → List ℕ → List UsageRecord → List UsageRecord → Type 0
AreNext day after rows [] = Unit {0}
AreNext day after rows (u ∷ us) = IsNext day after rows (Some u) × AreNext day u.login rows us
