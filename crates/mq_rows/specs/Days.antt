-- Of which days a history's rows of what logins have used are.
use Rattle.std.specs.Prelude.{◌≡◌, ◌≤◌, ℕ, List, [], true, false, Option, Some, None, Contains, map}
use Rattle.std.specs.List.{AllByRecursion}
use Rattle.mq_ledger.specs.declared.entry.Entry.{Entry}
use Rattle.mq_ledger.specs.Page.{has_reserve}
use Rattle.mq_rows.specs.declared.record.UsageRecord.{UsageRecord}

-- of the days of the rows it is the earliest; none where there is no row
abbrev pub IsOldest : List UsageRecord → Option ℕ → Type 0
IsOldest rows None = rows ≡ []
IsOldest rows (Some d) = Contains (map (λ u. u.day) rows) d × AllByRecursion (λ u. d ≤ u.day) rows

-- of the days of the rows it is the latest; none where there is no row
abbrev pub IsNewest : List UsageRecord → Option ℕ → Type 0
IsNewest rows None = rows ≡ []
IsNewest rows (Some d) = Contains (map (λ u. u.day) rows) d × AllByRecursion (λ u. u.day ≤ d) rows

-- a reserve of some login was granted on that day
abbrev pub IsReservedOn : (ℕ → ℕ) → List Entry → ℕ → Type 0
IsReservedOn day H d = (l : List ℕ) × (has_reserve day H d l ≡ true)

-- no reserve was granted
abbrev pub IsUnreserved : (ℕ → ℕ) → List Entry → Type 0
IsUnreserved day H = (d : ℕ) (l : List ℕ) → has_reserve day H d l ≡ false

-- it is the first day on which a reserve was granted; none where none was
abbrev pub IsFirstReserved : (ℕ → ℕ) → List Entry → Option ℕ → Type 0
IsFirstReserved day H None = IsUnreserved day H
IsFirstReserved day H (Some first) = IsReservedOn day H first × ((d : ℕ) → IsReservedOn day H d → first ≤ d)

-- it is the last day on which a reserve was granted; none where none was
abbrev pub IsLastReserved : (ℕ → ℕ) → List Entry → Option ℕ → Type 0
IsLastReserved day H None = IsUnreserved day H
IsLastReserved day H (Some last) = IsReservedOn day H last × ((d : ℕ) → IsReservedOn day H d → d ≤ last)
