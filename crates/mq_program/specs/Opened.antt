-- What a server's file holds, and what a ledger in it begins with.
use Rattle.std.specs.Prelude.{◌≡◌, ℕ, false, List, [], Option, None, Some, Result, string_bytes}
use Rattle.sqlite.specs.Does.{lacks_sequence}
use Rattle.sqlite.specs.Effect.{Database, IsDatabase}
use Rattle.sqlite.specs.Files.{HoldsDatabase}
use Rattle.sqlite.specs.Recovery.{Image}
use Rattle.sqlite.specs.State.{State}
use Rattle.mq_ledger.specs.declared.zone.Zone.{Zone}
use Rattle.mq_ledger.specs.Legal.{Book}
use Rattle.mq_tables.specs.Making.{AreUnnamed}
use Rattle.mq_connections.specs.Asking.{out}
use Rattle.mq_connections.specs.Gained.{Callers}
use Rattle.mq_connections.specs.Wires.{Wire}
use Rattle.mq_settings.specs.declared.settings.value.Place.{Place}
use Rattle.mq_settings.specs.declared.settings.value.Place.TheVariants as place
use Rattle.mq_rows.specs.declared.audited.Audit.TheVariants.{Sound}
use Rattle.mq_store.specs.Auditing.{IsAuditIn}
use Rattle.mq_store.specs.Taking.{book_of}
use Rattle.mq_store.specs.Soundness.{book_in, HasStored, IsNew, IsSound}
use Rattle.mq_program.specs.declared.fault.ProgramFault.{ProgramFault}
use Rattle.mq_program.specs.Serving.{HasServed}

-- the path of the file in which a ledger is kept, where it is kept in one
abbrev pub path_in : Place → Option (List ℕ)
path_in place.Memory = None
path_in (place.File path) = Some (string_bytes path)

-- the database file and its log hold a database, whose tables are the rows of this book, in any version that its zone may have
pub record KeepsBook (image : Image) (b : Book) : Type 0 where
  pub db : Database
  pub holds : HoldsDatabase image db.trees
  pub stored : HasStored b db

-- A legal history whose rows the files kept is of this zone and default, and what the sound store means.
abbrev pub MeansFile : Zone → ℕ → Image → State → Type 0
MeansFile zone default image new =
    (b : Book) → KeepsBook image b
    → (b.zone ≡ zone) × (b.default ≡ default) × IsSound zone default new × (book_in zone default new.now ≡ b)

-- an audit of the database that the files hold finds its books right, with so many days of logins and transactions
abbrev pub AreCountsIn : Zone → ℕ → Image → ℕ → ℕ → Type 0
AreCountsIn zone default image days transactions =
    (db : Database) → IsDatabase db → HoldsDatabase image db.trees
    → IsAuditIn zone default db (Sound days transactions)

-- The ledger is a new one where the database file was empty, and where the files held a database in which no foreign key names
-- a table of ours and each table with AUTOINCREMENT has the table that counts for it.
pub record IsMadeIn (zone : Zone) (default : ℕ) (image : Image) (new : State) : Type 0 where
  pub empty : image.db ≡ [] → IsNew zone default new
  pub beside : (db : Database) → IsDatabase db → HoldsDatabase image db.trees → lacks_sequence db.schema ≡ false
      → AreUnnamed db.schema → IsNew zone default new

-- A legal history whose rows the files kept is of this zone and default; what was served after it over these wires, and nothing
-- else, is what the sound store has gained.
abbrev pub ServesFrom : {A : Type 0} → Callers → Zone → ℕ → Image → (before : ℕ → Wire) → State → (after : ℕ → Wire) → Result A ProgramFault → Type 0
ServesFrom who zone default image before new after outcome =
    (b : Book) → KeepsBook image b
    → (b.zone ≡ zone) × (b.default ≡ default) × HasServed who zone default (out b before) new after outcome

-- where the database file was empty, what was served over these wires, and nothing else, is what the sound store means
abbrev pub ServesFromNothing : {A : Type 0} → Callers → Zone → ℕ → Image → (before : ℕ → Wire) → State → (after : ℕ → Wire) → Result A ProgramFault → Type 0
ServesFromNothing who zone default image before new after outcome =
    image.db ≡ [] → HasServed who zone default (out (book_of zone default []) before) new after outcome
