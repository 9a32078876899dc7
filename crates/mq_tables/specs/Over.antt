-- What is read of the days of a login.
use Rattle.std.specs.Prelude.{◌≡◌, ◌≤◌, ℕ, pos, ◌+◌, Bool, true, false, ◌&&◌, nat_le, nat_lt, if◌then◌else◌, List, []}
use Rattle.std.specs.Prelude.{◌∷◌, Option, Some, None}
use Rattle.std.specs.List.{AllByRecursion}
use Rattle.sqlite.specs.Order.{Row, column}
use Rattle.sqlite.specs.declared.types.Value.TheVariants.{Int}
use Rattle.sqlite_rules.specs.Lists.{Has}
use Rattle.mq_request.specs.Same.{same_text}
use Rattle.mq_rows.specs.declared.record.UsageRecord.{UsageRecord}
use Rattle.mq_tables.specs.declared.over.DayTotals.{DayTotals}

-- what the query for days shows
abbrev pub day_row : UsageRecord → Row
day_row u = Int (pos u.day) ∷ Int (pos u.settled) ∷ Int (pos u.reserved) ∷ []

-- the day is the login's, and that one or a later one
abbrev pub is_from : List ℕ → ℕ → UsageRecord → Bool
is_from login from u = same_text login u.login && nat_le from u.day

-- more than the cap is used
abbrev pub is_past : ℕ → DayTotals → Bool
is_past cap d = nat_lt cap (d.reserved + d.settled)

-- of those past the cap the one of the earlier day
abbrev pub earlier : ℕ → DayTotals → Option DayTotals → Option DayTotals
earlier cap d None = if is_past cap d then Some d else None
earlier cap d (Some first) =
    if is_past cap d then (if nat_le first.day d.day then Some first else Some d) else Some first

-- what a row shows
pub record IsTotalsShown (row : Row) (d : DayTotals) : Type 0 where
  pub day : column row 0 ≡ Int (pos d.day)
  pub settled : column row 1 ≡ Int (pos d.settled)
  pub reserved : column row 2 ≡ Int (pos d.reserved)

-- no row shows more used than the cap, or this is what a row of the first such day shows
abbrev pub IsEarliest : ℕ → List Row → Option DayTotals → Type 0
IsEarliest cap rows None = AllByRecursion (λ row. (d : DayTotals) × IsTotalsShown row d × (is_past cap d ≡ false)) rows
IsEarliest cap rows (Some d) =
    ((row : Row) × Has rows row × IsTotalsShown row d) × (is_past cap d ≡ true)
    × AllByRecursion (λ row. (e : DayTotals) × IsTotalsShown row e × (is_past cap e ≡ true → d.day ≤ e.day)) rows

-- what the query for a login's days shows of one
abbrev pub totals_of : UsageRecord → DayTotals
totals_of u = record { day = u.day; settled = u.settled; reserved = u.reserved }

-- the same as a row of that login
abbrev pub IsFirstShown : List ℕ → ℕ → List Row → Option UsageRecord → Type 0
IsFirstShown login cap rows None = IsEarliest cap rows None
IsFirstShown login cap rows (Some u) = (u.login ≡ login) × IsEarliest cap rows (Some (totals_of u))
