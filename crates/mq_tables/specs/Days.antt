-- What is read of the days that have rows.
use Rattle.std.specs.Prelude.{◌≡◌, ℕ, pos, List, [], ◌∷◌, Option}
use Rattle.sqlite.specs.Order.{Row, column}
use Rattle.sqlite.specs.declared.types.Value.TheVariants.{Int}
use Rattle.mq_rows.specs.declared.record.UsageRecord.{UsageRecord}
use Rattle.mq_tables.specs.Records.{IsFirstBy, IsShownOne}

-- what the queries for a day show
abbrev pub one_day_row : ℕ → Row
one_day_row d = Int (pos d) ∷ []

-- the one row shows that day of the records, or there is neither
abbrev pub IsDayShown : (List UsageRecord → Option ℕ → Type 0) → List UsageRecord → List Row → Type 0
IsDayShown IsThat = IsShownOne IsThat one_day_row

-- no row, or what the first shows
abbrev pub IsFirstDay : List Row → Option ℕ → Type 0
IsFirstDay = IsFirstBy (λ row d. column row 0 ≡ Int (pos d))
