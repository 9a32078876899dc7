-- What is read of the rows of a day.
use Rattle.std.specs.Prelude.{◌≡◌, ℕ, pos, List, [], ◌∷◌, ◌++◌, Option}
use Rattle.sqlite.specs.Order.{Row, column}
use Rattle.sqlite.specs.declared.types.Value.TheVariants.{Int, Blob}
use Rattle.mq_rows.specs.declared.record.UsageRecord.{UsageRecord}
use Rattle.mq_rows.specs.Listing.{IsNext}
use Rattle.mq_tables.specs.Records.{IsFirstBy, IsShownOne}

-- the least text above that one in byte order
abbrev pub just_above : List ℕ → List ℕ
just_above after = after ++ 0 ∷ []

-- the parameters of the query for the next row: the day, and the least login that may be it
abbrev pub from_params : ℕ → List ℕ → Row
from_params day from = Int (pos day) ∷ Blob from ∷ []

-- what that query shows of a row
abbrev pub next_row : UsageRecord → Row
next_row u = Blob u.login ∷ Int (pos u.settled) ∷ Int (pos u.reserved) ∷ []

-- none is above, or the one row shows the next
abbrev pub IsNextShown : ℕ → List ℕ → List UsageRecord → List Row → Type 0
IsNextShown day after = IsShownOne (IsNext day after) next_row

-- what a row of that day shows
pub record IsOfDayShown (d : ℕ) (row : Row) (u : UsageRecord) : Type 0 where
  pub day : u.day ≡ d
  pub login : column row 0 ≡ Blob u.login
  pub settled : column row 1 ≡ Int (pos u.settled)
  pub reserved : column row 2 ≡ Int (pos u.reserved)

-- no row, or what the first shows
abbrev pub IsFirstOfDay : ℕ → List Row → Option UsageRecord → Type 0
IsFirstOfDay day = IsFirstBy (IsOfDayShown day)
