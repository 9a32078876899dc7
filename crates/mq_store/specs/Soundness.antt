-- What a store means as a ledger, and when it is a sound one.
use Rattle.std.specs.Prelude.{◌≡◌, ℕ, false, nat_le, List, [], IsTrue, ⊤}
use Rattle.std.specs.List.{filter_map}
use Rattle.sqlite.specs.Does.{lacks_sequence}
use Rattle.sqlite.specs.Effect.{Database}
use Rattle.sqlite.specs.State.{State, HasCleanDisk}
use Rattle.mq_frame.specs.Reading.{request_at}
use Rattle.mq_request.specs.declared.message.Request.{Request}
use Rattle.mq_ledger.specs.declared.zone.Zone.{Zone}
use Rattle.mq_ledger.specs.Answer.{build}
use Rattle.mq_ledger.specs.Day.{day_of}
use Rattle.mq_ledger.specs.Legal.{Book, IsLegalBook}
use Rattle.mq_rows.specs.Tables.{Tables, AreRows}
use Rattle.mq_tables.specs.Answers.{bodies_in}
use Rattle.mq_tables.specs.Ledger.{HasLedger, IsCurrent, Since}
use Rattle.mq_tables.specs.Making.{has_later_table}

-- the requests that the rows of `answer` spell, in the order of n
abbrev pub requests_in : Database → List Request
requests_in db = filter_map request_at (bodies_in db)

-- Its zone, its default, and those requests, each with its answer over the history before it: a
-- function of the tables alone.
abbrev pub book_in : Zone → ℕ → Database → Book
book_in zone default db = record {
  zone = zone;
  default = default;
  history = build (day_of zone) default (requests_in db);
}

-- the disk has returned what was written, and the connection is open
pub record HasKept (s : State) : Type 0 where
  pub clean : HasCleanDisk s
  pub is_open : IsTrue s.is_open

-- The store has kept, it means a legal history of that zone and default, and its tables are the
-- rows of that history, in the version that a ledger has once it is opened.
pub record IsSound (zone : Zone) (default : ℕ) (s : State) : Type 0 where
  pub kept : HasKept s
  pub legal : IsLegalBook (book_in zone default s.now)
  pub tables : Tables
  pub holds : HasLedger s.now tables
  pub rows : AreRows (book_in zone default s.now) tables
  pub current : IsCurrent tables

-- a new ledger: sound, and no request was applied
pub record IsNew (zone : Zone) (default : ℕ) (s : State) : Type 0 where
  pub sound : IsSound zone default s
  pub blank : requests_in s.now ≡ []

-- What an open may meet: tables of the version that a ledger has once it is opened, or of an earlier one.

-- the tables that this version hasn't can be made: no other goes by their names, and each table with AUTOINCREMENT has
-- the table that counts for it
pub record HasRoom (version : ℕ) (db : Database) : Type 0 where
  pub free : has_later_table version db.schema ≡ false
  pub counters : lacks_sequence db.schema ≡ false

-- the tables are the rows of this book, which is legal, in any version that its zone may have; from one before the third
-- on there is room for the tables of that
pub record HasStored (b : Book) (db : Database) : Type 0 where
  pub legal : IsLegalBook b
  pub tables : Tables
  pub holds : HasLedger db tables
  pub rows : AreRows b tables
  pub room : Since (nat_le 3 tables.setting.version) ⊤ (HasRoom tables.setting.version db)

-- A legal history whose rows the store had, in whatever version, is of this zone and default, and what the sound store
-- means.
abbrev pub MeansBook : Zone → ℕ → Database → State → Type 0
MeansBook zone default old new =
    (b : Book) → HasStored b old
    → (b.zone ≡ zone) × (b.default ≡ default) × IsSound zone default new × (book_in zone default new.now ≡ b)

-- Where the tables were the rows of what they mean with a zone and a default, in whatever version, these are the ledger's,
-- it is sound, and it means what they meant.
pub record IsOpened (zone : Zone) (default : ℕ) (old new : State) : Type 0 where
  pub opened : (z : Zone) (d : ℕ) → HasStored (book_in z d old.now) old.now
      → (z ≡ zone) × (d ≡ default) × IsSound zone default new × (book_in zone default new.now ≡ book_in z d old.now)
