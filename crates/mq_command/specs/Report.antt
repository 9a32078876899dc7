-- What `report` prints of the usage of a day.
use Rattle.std.specs.Ordering.{nat_cmp}
use Rattle.std.specs.Prelude.{◌≡◌, ◌<◌, ◌+◌, ◌-◌, ℕ, List, [], ◌∷◌, ◌++◌, ◌⊎◌, length, replicate, Option, None, Some}
use Rattle.std.specs.Prelude.{Result, Ok, Err, ⊤}
use Rattle.std.specs.declared.cmp.Ordering.TheVariants.{Less}
use Rattle.std.specs.Cmp.Lexicographic.{slice_cmp}
use Rattle.std.specs.Fmt.{decimal}
use Rattle.std.specs.Io.KnownBytes.{Appends, Keeps}
use Rattle.std.specs.List.{flat_map}
use Rattle.mq_request.specs.Escaped.{escaped}
use Rattle.mq_request.specs.declared.message.Request.TheVariants as asks
use Rattle.mq_request.specs.declared.message.Reply.{Reply}
use Rattle.mq_request.specs.declared.message.Reply.TheVariants as says
use Rattle.mq_request.specs.declared.usage.UsageRow.{UsageRow}
use Rattle.mq_link.specs.declared.link.ReportedExchange.{ReportedExchange}
use Rattle.mq_command.specs.Asking.{Asks, IsAnswered}
use Rattle.mq_stream.specs.Flow.{AppendsFront}
use Rattle.mq_command.specs.declared.output.OutputFault.{OutputFault}
use Rattle.mq_command.specs.declared.output.OutputFault.TheVariants as outputs
use Rattle.mq_command.specs.declared.report.ReportFault.{ReportFault}
use Rattle.mq_command.specs.declared.report.ReportFault.TheVariants.{Unanswered, BadPage, TooManyPages, Write, Memory}

-- a word, right in so many places
abbrev pub right : ℕ → List ℕ → List ℕ
right places word = replicate (places - length word) 32 ++ word

-- a number, right in so many places, and a space
abbrev pub column : ℕ → ℕ → List ℕ
column places n = right places (decimal n) ++ 32 ∷ []

-- the line of a login: what is settled and reserved, the limit, each in so many places, and the login
abbrev pub row_line_in : ℕ → UsageRow → List ℕ
row_line_in places row =
    column places row.settled ++ column places row.reserved ++ column places row.cap ++ escaped row.login ++ 10 ∷ []

-- the same in 7 places
abbrev pub row_line : UsageRow → List ℕ
row_line row = row_line_in 7 row

-- the lines of a page, a login each
abbrev pub report_lines : List UsageRow → List ℕ
report_lines rows = flat_map row_line rows

-- the logins ascend, byte for byte, and the first is above this one
abbrev pub IsAscendingAbove : List ℕ → List UsageRow → Type 0
IsAscendingAbove after [] = ⊤
IsAscendingAbove after (row ∷ rows) = (slice_cmp nat_cmp after row.login ≡ Less) × IsAscendingAbove row.login rows

-- the login after which the next page begins
abbrev pub last_login : List ℕ → List UsageRow → List ℕ
last_login after [] = after
last_login after (row ∷ rows) = last_login row.login rows

-- The server was asked for the page of that day after a login, and answered with these rows of that day, ascending.
pub record IsPage (day : ℕ) (after : List ℕ) (old new : Option (List ReportedExchange)) (rows : List UsageRow) : Type 0 where
  pub answered : IsAnswered (asks.List day after) (says.List day rows) old new
  pub ascending : IsAscendingAbove after rows

-- The server was asked for that page, and answered with one of another day, or one that doesn't ascend from there.
pub record IsBadPage (day : ℕ) (after : List ℕ) (old new : Option (List ReportedExchange)) : Type 0 where
  pub other : ℕ
  pub rows : List UsageRow
  pub answered : IsAnswered (asks.List day after) (says.List other rows) old new
  pub bad : other ≡ day → IsAscendingAbove after rows → ⊥

-- a reply that may answer a list
abbrev pub AnswersList : Reply → Type 0
AnswersList (says.List day rows) = ⊤
AnswersList _ = ⊥

-- What is made of a reply with a page: its rows, where they are of that day and ascend from there.
abbrev pub TakesPage : ℕ → List ℕ → Reply → Result (List UsageRow) ReportFault → Type 0
TakesPage day after reply (Ok rows) = (reply ≡ says.List day rows) × IsAscendingAbove after rows
TakesPage day after reply (Err BadPage) =
    (other : ℕ) × (rows : List UsageRow) × (reply ≡ says.List other rows)
    × (other ≡ day → IsAscendingAbove after rows → ⊥)
TakesPage day after reply (Err _) = ⊥

-- What asking for a page leads to.
abbrev pub AsksPage : ℕ → List ℕ → Option (List ReportedExchange) → Option (List ReportedExchange) → Result (List UsageRow) ReportFault → Type 0
AsksPage day after old new (Ok rows) = IsPage day after old new rows
AsksPage day after old new (Err (Unanswered fault)) = Asks (asks.List day after) old new (Err fault)
AsksPage day after old new (Err BadPage) = IsBadPage day after old new
AsksPage day after old new (Err Memory) = new ≡ old
AsksPage day after old new (Err _) = ⊥

-- a fault of the output as one of the report
abbrev pub output_fault : OutputFault → ReportFault
output_fault outputs.Write = Write
output_fault outputs.Memory = Memory

-- so many full pages that were accepted, each after the one before; the last ends at this login
pub data AreFullPages (day : ℕ) (start : Option (List ReportedExchange)) : ℕ → List ℕ → Option (List ReportedExchange) → List UsageRow
    → Type 0 where
  no_page : AreFullPages day start 0 [] start []
  page : (count : ℕ) (after : List ℕ) (mid new : Option (List ReportedExchange)) (rows more : List UsageRow)
      → AreFullPages day start count after mid rows → IsPage day after mid new more → length more ≡ 100
      → AreFullPages day start (count + 1) (last_login after more) new (rows ++ more)

-- full pages were accepted, fewer than 100,000 of them, and this is known of what follows them
abbrev pub AfterPages : ℕ → Option (List ReportedExchange) → (List ℕ → Option (List ReportedExchange) → List UsageRow → Type 0) → Type 0
AfterPages day start Next =
    (count : ℕ) × (after : List ℕ) × (mid : Option (List ReportedExchange)) × (rows : List UsageRow) × (count < 100000)
    × AreFullPages day start count after mid rows × Next after mid rows

-- one page more was accepted, and a prefix of the lines of all pages is printed
abbrev pub PrintsFront : ℕ → Option (List ReportedExchange) → Option (List ℕ) → Option (List ℕ) → List ℕ → Option (List ReportedExchange)
    → List UsageRow → Type 0
PrintsFront day told old new after mid rows =
    (more : List UsageRow) × IsPage day after mid told more × AppendsFront old new (report_lines (rows ++ more))

-- The report of all logins: a line for each row of the pages, of which the last alone has fewer than 100 rows. Where it
-- isn't done, the lines of the pages that were accepted; a prefix of them where the output or memory fails.
abbrev pub ReportsAll : ℕ → Option (List ReportedExchange) → Option (List ReportedExchange) → Option (List ℕ) → Option (List ℕ)
    → Result (Unit {0}) ReportFault → Type 0
ReportsAll day told told' old new (Ok _) =
    AfterPages day told (λ after mid rows. (more : List UsageRow) × IsPage day after mid told' more
    × (length more < 100) × Appends old new (report_lines (rows ++ more)))
ReportsAll day told told' old new (Err (Unanswered fault)) =
    AfterPages day told (λ after mid rows. Asks (asks.List day after) mid told' (Err fault)
    × Appends old new (report_lines rows))
ReportsAll day told told' old new (Err BadPage) =
    AfterPages day told (λ after mid rows. IsBadPage day after mid told' × Appends old new (report_lines rows))
ReportsAll day told told' old new (Err TooManyPages) =
    (after : List ℕ) × (rows : List UsageRow) × AreFullPages day told 100000 after told' rows
    × Appends old new (report_lines rows)
ReportsAll day told told' old new (Err Write) = AfterPages day told (PrintsFront day told' old new)
ReportsAll day told told' old new (Err Memory) =
    AfterPages day told (λ after mid rows. ((told' ≡ mid) × Appends old new (report_lines rows))
    ⊎ PrintsFront day told' old new after mid rows)

-- the server answered what a login used on that day
pub record IsUsage (day : ℕ) (login : List ℕ) (old new : Option (List ReportedExchange)) (row : UsageRow) : Type 0 where
  pub answered : IsAnswered (asks.Usage login day) (says.Usage login day row.settled row.reserved row.cap) old new
  pub of_login : row.login ≡ login

-- a reply that may answer a usage
abbrev pub AnswersUsage : Reply → Type 0
AnswersUsage (says.Usage login day settled reserved cap) = ⊤
AnswersUsage _ = ⊥

-- the reply says this of a login on some day
abbrev pub HasRow : Reply → UsageRow → Type 0
HasRow reply row = (day : ℕ) × (reply ≡ says.Usage row.login day row.settled row.reserved row.cap)

-- What asking for a login's usage leads to.
abbrev pub AsksUsage : ℕ → List ℕ → Option (List ReportedExchange) → Option (List ReportedExchange) → Result UsageRow ReportFault → Type 0
AsksUsage day login old new (Ok row) = IsUsage day login old new row
AsksUsage day login old new (Err (Unanswered fault)) = Asks (asks.Usage login day) old new (Err fault)
AsksUsage day login old new (Err Memory) = new ≡ old
AsksUsage day login old new (Err _) = ⊥

-- What printing the line of a row leads to: all of it, or a front where the output or memory fails.
abbrev pub PrintsRow : UsageRow → Option (List ℕ) → Option (List ℕ) → Result (Unit {0}) ReportFault → Type 0
PrintsRow row old new (Ok _) = Appends old new (row_line row)
PrintsRow row old new (Err Write) = AppendsFront old new (row_line row)
PrintsRow row old new (Err Memory) = AppendsFront old new (row_line row)
PrintsRow row old new (Err _) = ⊥

-- The report of one login: its line. Where it isn't done, nothing; a prefix of the line where the output or memory
-- fails.
abbrev pub ReportsOne : ℕ → List ℕ → Option (List ReportedExchange) → Option (List ReportedExchange) → Option (List ℕ) → Option (List ℕ)
    → Result (Unit {0}) ReportFault → Type 0
ReportsOne day login told told' old new (Ok _) =
    (row : UsageRow) × IsUsage day login told told' row × Appends old new (row_line row)
ReportsOne day login told told' old new (Err (Unanswered fault)) =
    Asks (asks.Usage login day) told told' (Err fault) × Keeps old new
ReportsOne day login told told' old new (Err Write) =
    (row : UsageRow) × IsUsage day login told told' row × AppendsFront old new (row_line row)
ReportsOne day login told told' old new (Err Memory) =
    ((told' ≡ told) × Keeps old new) ⊎ ((row : UsageRow) × IsUsage day login told told' row
    × AppendsFront old new (row_line row))
ReportsOne day login told told' old new (Err _) = ⊥

-- the report of a login, or without one that of all
abbrev pub Reports : ℕ → Option (List ℕ) → Option (List ReportedExchange) → Option (List ReportedExchange) → Option (List ℕ) → Option (List ℕ)
    → Result (Unit {0}) ReportFault → Type 0
Reports day (Some login) = ReportsOne day login
Reports day None = ReportsAll day
