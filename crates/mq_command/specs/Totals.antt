-- What logins used at several servers together.
use Rattle.std.specs.Prelude.{◌≡◌, ◌⊎◌, ◌<◌, ◌+◌, ◌++◌, ◌∷◌, [], ℕ, Bool, true, false, List, Option, None, Some, Result, Ok, Err, length, map, replicate, slice_index_or, if◌then◌else◌, ⊤}
use Rattle.std.specs.Cmp.Lexicographic.{slice_cmp}
use Rattle.std.specs.Io.KnownBytes.{Keeps}
use Rattle.std.specs.List.{All as Each, Contains, flat_map, list_all, list_any, sum_by}
use Rattle.std.specs.List.Sorted.{IsStrictlySortedBy}
use Rattle.std.specs.Ordering.{nat_cmp}
use Rattle.mq_request.specs.Range.{IsLogin, IsRow}
use Rattle.mq_request.specs.declared.message.Request.TheVariants as asks
use Rattle.mq_request.specs.declared.usage.UsageRow.{UsageRow}
use Rattle.mq_command.specs.Asking.{Asks}
use Rattle.mq_command.specs.Orders.{PrintsLine}
use Rattle.mq_command.specs.Report.{IsAscendingAbove, IsUsage}
use Rattle.mq_command.specs.Top.{CollectsAll, IsTop}
use Rattle.mq_command.specs.declared.report.ReportFault.{ReportFault}
use Rattle.mq_command.specs.declared.report.ReportFault.TheVariants.{Unanswered, Memory}
use Rattle.mq_command.specs.Forms.{report_text}
use Rattle.mq_command.specs.declared.totals.ReportOrder.{ReportOrder}
use Rattle.mq_command.specs.declared.totals.ReportedLogins.{ReportedLogins}
use Rattle.mq_command.specs.declared.totals.ReportedLogins.TheVariants.{One, Top, All}
use Rattle.mq_link.specs.declared.link.ReportedExchange.{ReportedExchange}

-- What asking a server for the rows of all logins leads to: its rows, or none where it is left out, since not all came.
abbrev pub ListsPart : ℕ → Option (List ReportedExchange) → Option (List ReportedExchange) → Option (List UsageRow) → Type 0
ListsPart day old new (Some rows) = CollectsAll day old new (Ok rows)
ListsPart day old new None = (fault : ReportFault) × CollectsAll day old new (Err fault)

-- rows as a server lists them: in range, and ascending by login
pub record IsListing (rows : List UsageRow) : Type 0 where
  pub in_range : Each IsRow rows
  pub ascending : IsAscendingAbove [] rows

-- no row of these is the login's
abbrev pub IsUnlisted : List UsageRow → List ℕ → Type 0
IsUnlisted rows login = Each (λ row. row.login ≡ login → ⊥) rows

-- What finding a server's row of a login leads to: that of its list or, where it lists none, what it answers of the login.
abbrev pub FindsRow : ℕ → List UsageRow → List ℕ → Option (List ReportedExchange) → Option (List ReportedExchange) → Result UsageRow ReportFault → Type 0
FindsRow day listed login old new (Ok row) =
    (row.login ≡ login)
    × ((Contains listed row × (new ≡ old)) ⊎ (IsUnlisted listed login × IsUsage day login old new row))
FindsRow day listed login old new (Err (Unanswered cause)) =
    IsUnlisted listed login × Asks (asks.Usage login day) old new (Err cause)
FindsRow day listed login old new (Err Memory) = new ≡ old
FindsRow day listed login old new (Err fault) = ⊥

-- a server's row of each login
pub data AreCompleted (day : ℕ) (listed : List UsageRow) (start : Option (List ReportedExchange))
    : List (List ℕ) → Option (List ReportedExchange) → List UsageRow → Type 0 where
  no_login : AreCompleted day listed start [] start []
  next_login : (logins : List (List ℕ)) (login : List ℕ) (mid new : Option (List ReportedExchange)) (rows : List UsageRow) (row : UsageRow)
      → AreCompleted day listed start logins mid rows → FindsRow day listed login mid new (Ok row)
      → AreCompleted day listed start (logins ++ login ∷ []) new (rows ++ row ∷ [])

-- What completing a server's rows leads to: one for each login. It ends where memory runs out, or at the first login of which
-- no row is found.
abbrev pub Completes : ℕ → List UsageRow → List (List ℕ) → Option (List ReportedExchange) → Option (List ReportedExchange) → Result (List UsageRow) ReportFault → Type 0
Completes day listed logins old new (Ok rows) = AreCompleted day listed old logins new rows
Completes day listed logins old new (Err fault) =
    (done left : List (List ℕ)) × (rows : List UsageRow) × (mid : Option (List ReportedExchange)) × (logins ≡ done ++ left)
    × AreCompleted day listed old done mid rows
    × (((fault ≡ Memory) × (new ≡ mid))
    ⊎ ((login : List ℕ) × (later : List (List ℕ)) × (left ≡ login ∷ later) × FindsRow day listed login mid new (Err fault)))

-- What completing the rows of a server that isn't left out leads to: it may be left out now.
abbrev pub CompletesPart : ℕ → List (List ℕ) → Option (List UsageRow) → Option (List ReportedExchange) → Option (List ReportedExchange) → Option (List UsageRow) → Type 0
CompletesPart day logins (Some listed) old new (Some rows) = Completes day listed logins old new (Ok rows)
CompletesPart day logins (Some listed) old new None =
    (fault : ReportFault) × Completes day listed logins old new (Err fault)
CompletesPart day logins None old new (Some rows) = ⊥
CompletesPart day logins None old new None = new ≡ old

-- each link was asked in turn, and this came of it
pub record AreAsked (Came : ℕ → Option (List ReportedExchange) → Option (List ReportedExchange) → Option (List UsageRow) → Type 0)
    (old new : List (Option (List ReportedExchange))) (parts : List (Option (List UsageRow))) : Type 0 where
  pub links : length new ≡ length old
  pub counted : length parts ≡ length old
  pub each : (k : ℕ) → k < length old → Came k (slice_index_or old k None) (slice_index_or new k None) (slice_index_or parts k None)

-- the rows of a part
abbrev pub rows_of : Option (List UsageRow) → List UsageRow
rows_of None = []
rows_of (Some rows) = rows

-- whether a server isn't left out
abbrev pub is_there : Option (List UsageRow) → Bool
is_there None = false
is_there (Some rows) = true

-- the logins of rows
abbrev pub names : List UsageRow → List (List ℕ)
names rows = map (λ row. row.login) rows

-- the logins of these rows, each once and ascending
pub record AreLogins (rows : List UsageRow) (logins : List (List ℕ)) : Type 0 where
  pub ascending : IsStrictlySortedBy (slice_cmp nat_cmp) logins
  pub all : (login : List ℕ) → Contains (names rows) login → Contains logins login
  pub only : (login : List ℕ) → Contains logins login → Contains (names rows) login

-- nothing used, and no limit
abbrev pub no_row : UsageRow
no_row = record { login = []; settled = 0; reserved = 0; cap = 0 }

-- a part's row in a place; nothing where the server is left out
abbrev pub row_at : ℕ → Option (List UsageRow) → UsageRow
row_at place None = no_row
row_at place (Some rows) = slice_index_or rows place no_row

-- the row of a login whose rows stand in this place: what is settled and reserved at all servers together, and the limits' sum
abbrev pub total : List (Option (List UsageRow)) → ℕ → List ℕ → UsageRow
total parts place login = record {
  login = login;
  settled = sum_by (λ part. (row_at place part).settled) parts;
  reserved = sum_by (λ part. (row_at place part).reserved) parts;
  cap = sum_by (λ part. (row_at place part).cap) parts;
}

-- the rows of logins whose rows stand in their order, from this place on
abbrev pub totals : List (Option (List UsageRow)) → ℕ → List (List ℕ) → List UsageRow
totals parts place [] = []
totals parts place (login ∷ logins) = total parts place login ∷ totals parts (place + 1) logins

-- What asking each server for its rows leads to, and which logins they have.
abbrev pub ListsAll : ℕ → List (Option (List ReportedExchange)) → List (Option (List ReportedExchange)) → List (Option (List UsageRow)) → List (List ℕ) → Type 0
ListsAll day old new listed logins =
    AreAsked (λ place. ListsPart day) old new listed × AreLogins (flat_map rows_of listed) logins

-- one login that is meant is in range
abbrev pub IsMeant : ReportedLogins → Type 0
IsMeant (One login) = IsLogin login
IsMeant logins = ⊤

-- What asking for the logins that are meant leads to: one that is named is asked about as it is, and for all each server is
-- asked for its rows.
abbrev pub Lists : ReportedLogins → ℕ → List (Option (List ReportedExchange)) → List (Option (List ReportedExchange)) → List (Option (List UsageRow)) → List (List ℕ) → Type 0
Lists (One login) day old new listed logins =
    (new ≡ old) × (listed ≡ replicate (length old) (Some [])) × (logins ≡ login ∷ [])
Lists (Top count) day old new listed logins = ListsAll day old new listed logins
Lists All day old new listed logins = ListsAll day old new listed logins

-- Each server that isn't left out has a row for each of the logins.
abbrev pub CompletesAll : ℕ → List (List ℕ) → List (Option (List UsageRow)) → List (Option (List ReportedExchange)) → List (Option (List ReportedExchange)) → List (Option (List UsageRow)) → Type 0
CompletesAll day logins listed = AreAsked (λ place. CompletesPart day logins (slice_index_or listed place None))

-- What gathering the rows of the logins that are meant leads to: those of each server, and the logins in their order.
abbrev pub Gathers : ReportedLogins → ℕ → List (Option (List ReportedExchange)) → List (Option (List ReportedExchange)) → List (List ℕ) → List (Option (List UsageRow)) → Type 0
Gathers logins day old new named parts =
    (mid : List (Option (List ReportedExchange))) × (listed : List (Option (List UsageRow)))
    × Lists logins day old mid listed named × CompletesAll day named listed mid new parts

-- nothing was asked, or each server for its rows and nothing more
abbrev pub HasListed : ℕ → List (Option (List ReportedExchange)) → List (Option (List ReportedExchange)) → Type 0
HasListed day old new =
    (new ≡ old) ⊎ ((listed : List (Option (List UsageRow))) × AreAsked (λ place. ListsPart day) old new listed)

-- what was asked where memory ran out: nothing, or only the lists, or all
abbrev pub RunsOut : ReportedLogins → ℕ → List (Option (List ReportedExchange)) → List (Option (List ReportedExchange)) → Type 0
RunsOut logins day old new =
    HasListed day old new
    ⊎ ((named : List (List ℕ)) × (parts : List (Option (List UsageRow))) × Gathers logins day old new named parts)

-- the rows that are reported: those of the logins that used most, or all
abbrev pub Picks : ReportedLogins → List UsageRow → List UsageRow → Type 0
Picks (Top count) rows picked = IsTop count rows picked
Picks logins rows picked = picked ≡ rows

-- What printing a report of servers leads to: nothing is printed where each is left out, and the status is 0 only where none is.
abbrev pub PrintsTotals : List (Option (List UsageRow)) → List ℕ → Option (List ℕ) → Option (List ℕ) → ℕ → Type 0
PrintsTotals parts text old new status =
    ((list_any is_there parts ≡ false) × (status ≡ 1) × Keeps old new)
    ⊎ ((printed : ℕ) × (list_any is_there parts ≡ true) × PrintsLine text old new printed
    × (status ≡ (if list_all is_there parts then printed else 1)))

-- What a report of several servers together leads to. Nothing is printed where memory runs out.
abbrev pub ReportsTotals : ReportOrder → List ℕ → List (Option (List ReportedExchange)) → List (Option (List ReportedExchange)) → Option (List ℕ) → Option (List ℕ) → ℕ → Type 0
ReportsTotals order date old new output output' status =
    ((status ≡ 1) × RunsOut order.logins order.day old new × Keeps output output')
    ⊎ ((named : List (List ℕ)) × (parts : List (Option (List UsageRow))) × (rows : List UsageRow)
    × Gathers order.logins order.day old new named parts × Picks order.logins (totals parts 0 named) rows
    × PrintsTotals parts (report_text order.form order.day date rows) output output' status)
