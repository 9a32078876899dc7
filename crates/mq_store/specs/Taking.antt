-- What a request does to the tables of a ledger.
use Rattle.std.specs.Prelude.{◌≡◌, ℕ, List, [], ◌∷◌, ◌++◌, Bool, true, false, Option, Some, None}
use Rattle.sqlite.specs.Effect.{Database}
use Rattle.sqlite.specs.State.{State}
use Rattle.mq_request.specs.declared.message.Id.{Id}
use Rattle.mq_request.specs.declared.message.Request.{Request}
use Rattle.mq_request.specs.declared.message.Reply.{Reply}
use Rattle.mq_ledger.specs.declared.entry.Entry.{Entry}
use Rattle.mq_ledger.specs.declared.zone.Zone.{Zone}
use Rattle.mq_ledger.specs.Answer.{appended, history_of, known_by, reply}
use Rattle.mq_ledger.specs.Arrivals.{is_first}
use Rattle.mq_ledger.specs.Day.{day_of}
use Rattle.mq_ledger.specs.History.{requests}
use Rattle.mq_ledger.specs.Legal.{Book, IsLegalBook}
use Rattle.mq_rows.specs.declared.plan.Plan.{Plan}
use Rattle.mq_rows.specs.Plan.{Leads, same_from, set_limit, same_host, set_run}
use Rattle.mq_rows.specs.Rows.{IsSetting, answer_rows}
use Rattle.mq_rows.specs.Tables.{Tables, AreLimits, AreRetired, AreRows}
use Rattle.mq_rows.specs.Written.{MovesLead, LeadTo}
use Rattle.mq_tables.specs.Ledger.{HasLedger, IsCurrent}
use Rattle.mq_store.specs.declared.take.TakenRequest.{TakenRequest}
use Rattle.mq_store.specs.declared.take.TakenRequest.TheVariants.{Read, Written}

-- the tables are the rows of this book, in the version that a ledger has once it is opened
pub record HasRows (b : Book) (db : Database) : Type 0 where
  pub tables : Tables
  pub holds : HasLedger db tables
  pub rows : AreRows b tables
  pub current : IsCurrent tables

-- they are, and the book is legal
pub record HasBook (b : Book) (db : Database) : Type 0 where
  pub legal : IsLegalBook b
  pub has : HasRows b db

-- the book of a zone, a default limit and a history
abbrev pub book_of : Zone → ℕ → List Entry → Book
book_of zone default H = record { zone = zone; default = default; history = H }

-- A reading leaves the tables and the transaction as they are.
pub record Stays (old new : State) : Type 0 where
  pub now : new.now ≡ old.now
  pub inside : new.in_transaction ≡ old.in_transaction

-- What is written.

-- The settings and the answers are those of the book, and the planned writes lead to its other rows.
pub record RowsLead (b : Book) (t : Tables) (p : Plan) : Type 0 where
  pub current : IsCurrent t
  pub setting : IsSetting b t.setting
  pub answers : t.answers ≡ answer_rows b.history
  pub moves : MovesLead b p t.transactions t.usage
  pub limits : Leads same_from set_limit p.limit t.limits (AreLimits b.history)
  pub retired : Leads same_host set_run p.retired t.retired (AreRetired b.history)

-- where the planned writes of those rows lead to a book, the tables are its rows
abbrev pub MovesRows : Plan → Database → Database → Type 0
MovesRows p old new = (b : Book) (t : Tables) → HasLedger old t → RowsLead b t p → HasRows b new

-- where the plan leads to a book, the tables are its rows
abbrev pub WritesPlan : Plan → Database → Database → Type 0
WritesPlan p old new = (b : Book) (t : Tables) → HasLedger old t → IsCurrent t → LeadTo b t p → HasRows b new

-- What is replied and written, whatever the history is of which the tables are the rows.

-- the number is new, or it is known and the reply is the ledger's: its run is below the floor, or it is stored
abbrev pub IsKnown : Zone → ℕ → List Entry → Request → Id → Option Reply → Type 0
IsKnown zone default H r id None = known_by H (Some id) ≡ false
IsKnown zone default H r id (Some a) = (known_by H (Some id) ≡ true) × (a ≡ reply (day_of zone) default H r)

-- the plan's reply is the ledger's, and its writes lead to the history with the request
abbrev pub IsPlannedOver : Zone → ℕ → List Entry → Request → Tables → Plan → Type 0
IsPlannedOver zone default H r t p =
    (p.reply ≡ reply (day_of zone) default H r)
    × LeadTo (book_of zone default (appended (day_of zone) default H r)) t p

-- the plan is so over each history of which the tables are the rows, and to which the number is new
abbrev pub IsPlanned : Zone → ℕ → Request → Id → Database → Plan → Type 0
IsPlanned zone default r id db p =
    (H : List Entry) (b : HasBook (book_of zone default H) db) → known_by H (Some id) ≡ false
    → IsPlannedOver zone default H r b.has.tables p

-- the book whose history is that of one more arrival
abbrev pub book_after : Zone → ℕ → List Entry → Request → Book
book_after zone default H r = book_of zone default (history_of (day_of zone) default (requests H ++ r ∷ []))

-- the reply is the ledger's, and the tables are the rows of the history with the arrival
abbrev pub AppliesOver : Zone → ℕ → List Entry → Request → Reply → Database → Type 0
AppliesOver zone default H r a new =
    (a ≡ reply (day_of zone) default H r) × HasBook (book_after zone default H r) new

-- they are, over each history of which the tables were the rows, and to which the number is new
abbrev pub AppliesNew : Zone → ℕ → Request → Id → Reply → Database → Database → Type 0
AppliesNew zone default r id a old new =
    (H : List Entry) → HasBook (book_of zone default H) old → known_by H (Some id) ≡ false
    → AppliesOver zone default H r a new

-- they are, over each history of which the tables were the rows, whatever the request is
abbrev pub Applies : Zone → ℕ → Request → Reply → Database → Database → Type 0
Applies zone default r a old new =
    (H : List Entry) → HasBook (book_of zone default H) old → AppliesOver zone default H r a new

-- whether it is the first request of its number
abbrev pub ArrivesAs : Bool → Zone → ℕ → Request → Database → Type 0
ArrivesAs is zone default r old =
    (H : List Entry) → HasBook (book_of zone default H) old → is_first (requests H) r ≡ is

-- the reply and the rows are as Applies says; a Written request is the first of its number, and a Read one isn't, and
-- leaves the store as it was
abbrev pub IsTaken : Zone → ℕ → Request → Database → Database → TakenRequest → Type 0
IsTaken zone default r old new (Read a) =
    Applies zone default r a old new × (new ≡ old) × ArrivesAs false zone default r old
IsTaken zone default r old new (Written a) = Applies zone default r a old new × ArrivesAs true zone default r old

-- What is read, whatever the zone is.

-- the reply is the ledger's
abbrev pub IsReplied : ℕ → Request → Database → Reply → Type 0
IsReplied default r db a =
    (zone : Zone) (H : List Entry) → HasBook (book_of zone default H) db → a ≡ reply (day_of zone) default H r

-- the reply, whether anything was written or not
abbrev pub reply_in : TakenRequest → Reply
reply_in (Read a) = a
reply_in (Written a) = a
