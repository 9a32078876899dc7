-- A new ledger that has what is remembered of an old one.
use Rattle.std.specs.Prelude.{◌≡◌, ◌⊎◌, ℕ, false, List, []}
use Rattle.sqlite.specs.Does.{lacks_sequence}
use Rattle.sqlite.specs.Effect.{Database}
use Rattle.sqlite.specs.State.{State}
use Rattle.sqlite.specs.Tree.{Trees}
use Rattle.mq_ledger.specs.declared.entry.Entry.{Entry}
use Rattle.mq_ledger.specs.declared.zone.Zone.{Zone}
use Rattle.mq_ledger.specs.Day.{day_of}
use Rattle.mq_tables.specs.Making.{AreUnnamed}
use Rattle.mq_forget.specs.Remembered.{remembered}
use Rattle.mq_store.specs.Crash.{FindsOnly}
use Rattle.mq_store.specs.Soundness.{IsSound, book_in}
use Rattle.mq_store.specs.Taking.{HasBook, book_of}

-- The new store may be made a ledger: each table with AUTOINCREMENT has the table that counts for it, and no foreign key
-- that was there names a table of ours.
pub record IsFree (db : Database) : Type 0 where
  pub counters : lacks_sequence db.schema ≡ false
  pub unnamed : AreUnnamed db.schema

-- the new tables are those of a ledger that has applied nothing
abbrev pub MakesBlank : Zone → ℕ → Database → Database → Type 0
MakesBlank zone default old new = IsFree old → HasBook (book_of zone default []) new

-- where the old store's tables are the rows of a history, the new one's are those of what is remembered of it
abbrev pub Fills : Zone → ℕ → ℕ → Database → Database → Database → Type 0
Fills zone default D from old new =
    (H : List Entry) → HasBook (book_of zone default H) from → IsFree old
    → HasBook (book_of zone default (remembered (day_of zone) D H)) new

-- these trees are what the whole call leaves
pub record AreFilled (zone : Zone) (default : ℕ) (D : ℕ) (from old : Database) (trees : Trees) : Type 0 where
  pub new : Database
  pub filled : Fills zone default D from old new
  pub trees_are : new.trees ≡ trees

-- the new store is a sound ledger, and means what is remembered of what the old one means
pub record IsRemembered (zone : Zone) (default : ℕ) (D : ℕ) (old : Database) (new : State) : Type 0 where
  pub sound : IsSound zone default new
  pub history : (book_in zone default new.now).history ≡ remembered (day_of zone) D (book_in zone default old).history

-- What is found by whoever opens what a crash left, where the old store's tables are the rows of a history.

-- the rows of what is remembered of it
abbrev pub FindsFilled : Zone → ℕ → ℕ → Database → Database → State → Type 0
FindsFilled zone default D from old new =
    (H : List Entry) → HasBook (book_of zone default H) from → IsFree old
    → FindsOnly new (HasBook (book_of zone default (remembered (day_of zone) D H)))

-- those, or what could be found before
abbrev pub FindsFilledOr : Zone → ℕ → ℕ → Database → State → State → Type 0
FindsFilledOr zone default D from old new =
    (H : List Entry) → HasBook (book_of zone default H) from → IsFree old.now
    → FindsOnly new
    (λ db. old.may_leave db.trees ⊎ HasBook (book_of zone default (remembered (day_of zone) D H)) db)
