-- A page that is gone through from login to login.
use Rattle.std.specs.Prelude.{◌≡◌, ℕ, List, map, length, Option, Some, None}
use Rattle.mq_request.specs.declared.usage.UsageRow.{UsageRow}
use Rattle.mq_ledger.specs.declared.entry.Entry.{Entry}
use Rattle.mq_ledger.specs.declared.zone.Zone.{Zone}
use Rattle.mq_ledger.specs.Day.{day_of}
use Rattle.mq_ledger.specs.Page.{page, row}
use Rattle.mq_rows.specs.declared.record.UsageRecord.{UsageRecord}
use Rattle.mq_rows.specs.Listing.{IsNext, AreNext, behind}
use Rattle.sqlite.specs.Effect.{Database}
use Rattle.mq_store.specs.Taking.{HasBook, book_of}

-- no login is next, or this is the ledger's row of the next one
abbrev pub IsNextIn : (ℕ → ℕ) → ℕ → List Entry → ℕ → List ℕ → List UsageRecord → Option UsageRow → Type 0
IsNextIn day default H d after rows None = IsNext d after rows None
IsNextIn day default H d after rows (Some r) =
    (u : UsageRecord) × IsNext d after rows (Some u) × (r ≡ row day default H d u.login)

-- that is the next row, whatever the zone and the history are of which the tables are the rows
abbrev pub IsNextRow : ℕ → ℕ → List ℕ → Database → Option UsageRow → Type 0
IsNextRow default d after db o =
    (zone : Zone) (H : List Entry) (b : HasBook (book_of zone default H) db)
    → IsNextIn (day_of zone) default H d after b.has.tables.usage o

-- these are the ledger's rows of a page
abbrev pub IsPageOf : ℕ → ℕ → List ℕ → Database → List UsageRow → Type 0
IsPageOf default d after db shown =
    (zone : Zone) (H : List Entry) → HasBook (book_of zone default H) db
    → shown ≡ map (row (day_of zone) default H d) (page (day_of zone) H d after)

-- The rows of the first n logins beyond `after`, which follow one another, and the last of them.
pub record IsBegun (day : ℕ → ℕ) (default : ℕ) (H : List Entry) (d : ℕ) (after : List ℕ) (rows : List UsageRecord)
    (n : ℕ) (shown : List UsageRow) (last : List ℕ) : Type 0 where
  pub us : List UsageRecord
  pub next : AreNext d after rows us
  pub count : length us ≡ n
  pub are : shown ≡ map (row day default H d) (map (λ u. u.login) us)
  pub ends : last ≡ behind after us

-- these are those rows, whatever the zone and the history are of which the tables are the rows
abbrev pub IsBegunIn : ℕ → ℕ → List ℕ → Database → ℕ → List UsageRow → List ℕ → Type 0
IsBegunIn default d after db n shown last =
    (zone : Zone) (H : List Entry) (b : HasBook (book_of zone default H) db)
    → IsBegun (day_of zone) default H d after b.has.tables.usage n shown last
