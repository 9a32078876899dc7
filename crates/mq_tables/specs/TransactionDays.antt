-- What is read of the days of transactions, up to a day.
use Rattle.std.specs.Prelude.{◌≡◌, ◌≤◌, ℕ, pos, nat_le, List, [], ◌∷◌, Bool, true, false, Option, Some, None, Contains}
use Rattle.std.specs.List.{AllByRecursion}
use Rattle.sqlite.specs.Order.{Row}
use Rattle.sqlite.specs.declared.types.Value.TheVariants.{Int}
use Rattle.mq_rows.specs.declared.record.TransactionRecord.{TransactionRecord}
use Rattle.mq_tables.specs.Days.{one_day_row}
use Rattle.mq_tables.specs.Records.{IsShownOne}

-- the parameter of these queries
abbrev pub day_params : ℕ → Row
day_params until = Int (pos until) ∷ []

-- the row is of that day or an earlier one
abbrev pub is_until : ℕ → TransactionRecord → Bool
is_until until t = nat_le t.day until

-- one of the rows is of that day
abbrev pub IsDayOf : List TransactionRecord → ℕ → Type 0
IsDayOf rows d = (t : TransactionRecord) × Contains rows t × (t.day ≡ d)

-- of the days of the rows, up to that day, it is the earliest; none where there is none
abbrev pub IsOldestUntil : ℕ → List TransactionRecord → Option ℕ → Type 0
IsOldestUntil until rows None = AllByRecursion (λ t. is_until until t ≡ false) rows
IsOldestUntil until rows (Some d) =
    IsDayOf rows d × (d ≤ until) × AllByRecursion (λ t. is_until until t ≡ true → d ≤ t.day) rows

-- of the days of the rows, up to that day, it is the latest; none where there is none
abbrev pub IsNewestUntil : ℕ → List TransactionRecord → Option ℕ → Type 0
IsNewestUntil until rows None = AllByRecursion (λ t. is_until until t ≡ false) rows
IsNewestUntil until rows (Some d) =
    IsDayOf rows d × (d ≤ until) × AllByRecursion (λ t. is_until until t ≡ true → t.day ≤ d) rows

-- the one row shows that day of the records, or there is neither
abbrev pub IsDayUntilShown : (List TransactionRecord → Option ℕ → Type 0) → List TransactionRecord → List Row → Type 0
IsDayUntilShown IsThat = IsShownOne IsThat one_day_row
