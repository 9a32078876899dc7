-- What is read of the limits of a login.
use Rattle.std.specs.Prelude.{◌≡◌, ℕ, pos, List, [], ◌∷◌, Option}
use Rattle.sqlite.specs.Order.{Row, column}
use Rattle.sqlite.specs.declared.types.Value.TheVariants.{Int}
use Rattle.mq_rows.specs.declared.record.LimitRecord.{LimitRecord}
use Rattle.mq_rows.specs.Found.{IsGoverning}
use Rattle.mq_tables.specs.Records.{IsFirstBy, IsShownOne}

-- what a query for limits shows
abbrev pub limit_row : LimitRecord → Row
limit_row c = Int (pos c.day) ∷ Int (pos c.cap) ∷ []

-- none is due, or the one row shows the latest
abbrev pub IsGoverningShown : List ℕ → ℕ → List LimitRecord → List Row → Type 0
IsGoverningShown login day = IsShownOne (IsGoverning login day) limit_row

-- what the row of a limit of that login shows
pub record IsLimitShown (l : List ℕ) (row : Row) (c : LimitRecord) : Type 0 where
  pub login : c.login ≡ l
  pub day : column row 0 ≡ Int (pos c.day)
  pub cap : column row 1 ≡ Int (pos c.cap)

-- no row, or what the first shows
abbrev pub IsFirstLimit : List ℕ → List Row → Option LimitRecord → Type 0
IsFirstLimit login = IsFirstBy (IsLimitShown login)
