-- What `report --top` prints: the logins that used most on a day.
use Rattle.std.specs.Prelude.{◌≡◌, ◌<◌, ◌+◌, ◌⊎◌, ℕ, List, [], ◌∷◌, ◌++◌, length, take, max, nat_lt, Bool, Option, Result, Ok, Err, codes, if◌then◌else◌}
use Rattle.std.specs.Fmt.{decimal}
use Rattle.std.specs.Io.KnownBytes.{Appends, Keeps}
use Rattle.std.specs.Ordering.{is_lt, nat_cmp}
use Rattle.std.specs.List.{flat_map}
use Rattle.std.specs.List.Sorted.{IsPermutation, IsSortedBy, IsStableBy}
use Rattle.mq_request.specs.declared.message.Request.TheVariants as asks
use Rattle.mq_request.specs.declared.usage.UsageRow.{UsageRow}
use Rattle.mq_link.specs.declared.link.ReportedExchange.{ReportedExchange}
use Rattle.mq_stream.specs.Flow.{AppendsFront}
use Rattle.mq_command.specs.Asking.{Asks}
use Rattle.mq_command.specs.Report.{AfterPages, AreFullPages, IsBadPage, IsPage, report_lines, right, row_line_in}
use Rattle.mq_command.specs.declared.report.ReportFault.{ReportFault}
use Rattle.mq_command.specs.declared.report.ReportFault.TheVariants.{Unanswered, BadPage, TooManyPages, Write, Memory}

-- what a login used: settled and reserved
abbrev pub used_of : UsageRow → ℕ
used_of row = row.settled + row.reserved

-- whether the one login used more than the other
abbrev pub uses_more : UsageRow → UsageRow → Bool
uses_more one other = is_lt (nat_cmp (used_of other) (used_of one))

-- So many of the rows at most: those that used most, most first; of those that used the same the one that stands first, which of
-- ascending logins is the lower one.
pub record IsTop (count : ℕ) (rows top : List UsageRow) : Type 0 where
  pub sorted : List UsageRow
  pub same : IsPermutation rows sorted
  pub ordered : IsSortedBy uses_more sorted
  pub stable : IsStableBy uses_more rows sorted
  pub first : top ≡ take count sorted

-- What asking for the rows of all logins of the day leads to: those of its pages, of which the last alone has fewer than 100.
abbrev pub CollectsAll : ℕ → Option (List ReportedExchange) → Option (List ReportedExchange) → Result (List UsageRow) ReportFault → Type 0
CollectsAll day told told' (Ok all) =
    AfterPages day told (λ after mid rows. (more : List UsageRow) × IsPage day after mid told' more × (length more < 100)
    × (all ≡ rows ++ more))
CollectsAll day told told' (Err (Unanswered fault)) =
    AfterPages day told (λ after mid rows. Asks (asks.List day after) mid told' (Err fault))
CollectsAll day told told' (Err BadPage) = AfterPages day told (λ after mid rows. IsBadPage day after mid told')
CollectsAll day told told' (Err TooManyPages) =
    (after : List ℕ) × (rows : List UsageRow) × AreFullPages day told 100000 after told' rows
CollectsAll day told told' (Err Write) = ⊥
CollectsAll day told told' (Err Memory) =
    AfterPages day told (λ after mid rows. (told' ≡ mid) ⊎ ((more : List UsageRow) × IsPage day after mid told' more))

-- What printing those of the rows that used most leads to: their lines, or a prefix of them where the output or memory fails.
abbrev pub PrintsTop : ℕ → List UsageRow → Option (List ℕ) → Option (List ℕ) → Result (Unit {0}) ReportFault → Type 0
PrintsTop count rows old new (Ok _) = (top : List UsageRow) × IsTop count rows top × Appends old new (report_lines top)
PrintsTop count rows old new (Err Write) =
    (top : List UsageRow) × IsTop count rows top × AppendsFront old new (report_lines top)
PrintsTop count rows old new (Err Memory) =
    Keeps old new ⊎ ((top : List UsageRow) × IsTop count rows top × AppendsFront old new (report_lines top))
PrintsTop count rows old new (Err _) = ⊥

-- The report of those that used most of all logins of the day. Nothing is printed where not all rows came.
abbrev pub ReportsTop : ℕ → ℕ → Option (List ReportedExchange) → Option (List ReportedExchange) → Option (List ℕ) → Option (List ℕ)
    → Result (Unit {0}) ReportFault → Type 0
ReportsTop day count told told' old new (Ok done) =
    (rows : List UsageRow) × CollectsAll day told told' (Ok rows) × PrintsTop count rows old new (Ok done)
ReportsTop day count told told' old new (Err fault) =
    (CollectsAll day told told' (Err fault) × Keeps old new)
    ⊎ ((rows : List UsageRow) × CollectsAll day told told' (Ok rows) × PrintsTop count rows old new (Err fault))

-- the line above the columns of a report
abbrev pub columns_line : List ℕ
columns_line = codes "settled reserved  limit login\n"

-- the greatest of this number and the figures of these rows
abbrev pub greatest : ℕ → List UsageRow → ℕ
greatest most [] = most
greatest most (row ∷ rows) = greatest (max (max (max most row.settled) row.reserved) row.cap) rows

-- the places that each figure of these rows takes: as many as the greatest has digits, and 7 at least
abbrev pub places_of : List UsageRow → ℕ
places_of rows = max (length (decimal (greatest 0 rows))) 7

-- the line above columns of so many places
abbrev pub heading : ℕ → List ℕ
heading places =
    if nat_lt 7 places
    then right places (codes "settled") ++ 32 ∷ right places (codes "reserved") ++ 32 ∷ right places (codes "limit") ++ codes " login\n"
    else columns_line

-- the table of these rows, in columns that are wide enough
abbrev pub table : List UsageRow → List ℕ
table rows = heading (places_of rows) ++ flat_map (row_line_in (places_of rows)) rows
