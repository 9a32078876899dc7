-- What an open may find where a crash comes after a request, or after another open.
-- `may_leave db`, of a store: a crash now may leave these trees.
use Rattle.std.specs.Prelude.{◌≡◌, ◌⊎◌, ℕ, nat_le, List, true, false, Option, Some, None}
use Rattle.sqlite.specs.Effect.{Database, IsDatabase}
use Rattle.sqlite.specs.State.{State}
use Rattle.sqlite.specs.Tree.{Trees}
use Rattle.mq_request.specs.declared.message.Request.{Request}
use Rattle.mq_request.specs.declared.message.Reply.{Reply}
use Rattle.mq_ledger.specs.declared.entry.Entry.{Entry}
use Rattle.mq_ledger.specs.declared.zone.Zone.{Zone}
use Rattle.mq_ledger.specs.Arrivals.{is_first}
use Rattle.mq_ledger.specs.History.{requests}
use Rattle.mq_ledger.specs.Legal.{Book}
use Rattle.mq_tables.specs.Ledger.{Since}
use Rattle.mq_store.specs.Opening.{AreBroughtUp}
use Rattle.mq_store.specs.Soundness.{HasStored}
use Rattle.mq_store.specs.Taking.{HasBook, book_of, book_after, Applies}

-- These trees are what the call leaves once it is done, where it replies so: where the rows were those of a
-- legal history, the reply is the ledger's, and they are those of the history with this arrival. So it is of
-- each sound database that has these trees.
pub record AreAppliedBy (zone : Zone) (default : ℕ) (r : Request) (a : Reply) (old : Database) (trees : Trees)
    : Type 0 where
  pub new : Database
  pub applied : Applies zone default r a old new
  pub trees_are : new.trees ≡ trees
  pub opened : (db : Database) → IsDatabase db → db.trees ≡ trees → Applies zone default r a old db

-- so they are, with some reply
abbrev pub AreApplied : Zone → ℕ → Request → Database → Trees → Type 0
AreApplied zone default r old trees = (a : Reply) × AreAppliedBy zone default r a old trees

-- after this reply to the first request of its number: the rows after the call
abbrev pub LeavesNew : Zone → ℕ → Request → Reply → State → State → Type 0
LeavesNew zone default r a old new =
    (H : List Entry) → HasBook (book_of zone default H) old.now → is_first (requests H) r ≡ true
    → (db : Trees) → new.may_leave db → (db ≡ new.now.trees) × AreAppliedBy zone default r a old.now db

-- after any other reply: what a crash could leave before
abbrev pub LeavesOld : Zone → ℕ → Request → State → State → Type 0
LeavesOld zone default r old new =
    (H : List Entry) → HasBook (book_of zone default H) old.now → is_first (requests H) r ≡ false
    → (db : Trees) → new.may_leave db → old.may_leave db

-- after an open that is refused, by the version of the settings: what a crash could leave before, or exactly that ledger
-- brought up
abbrev pub LeavesBy : Option ℕ → State → State → Type 0
LeavesBy None old new = (db : Trees) → new.may_leave db → old.may_leave db
LeavesBy (Some version) old new = (db : Trees) → new.may_leave db → old.may_leave db ⊎ AreBroughtUp version old.now db

-- What is found by whoever opens what a crash left.

-- each sound database whose trees a crash may leave is such a one
abbrev pub FindsOnly : State → (Database → Type 0) → Type 0
FindsOnly s P = (db : Database) → IsDatabase db → s.may_leave db.trees → P db

-- after a reply: the rows of the history with this arrival, where it was the first of its number or a crash
-- before left those of the history
abbrev pub FindsNew : Zone → ℕ → Request → State → State → Type 0
FindsNew zone default r old new =
    (H : List Entry) → HasBook (book_of zone default H) old.now
    → (is_first (requests H) r ≡ false → FindsOnly old (HasBook (book_of zone default H)))
    → FindsOnly new (HasBook (book_after zone default H r))

-- after a fault: those, or what a crash before could leave
abbrev pub FindsEither : Zone → ℕ → Request → State → State → Type 0
FindsEither zone default r old new =
    (H : List Entry) → HasBook (book_of zone default H) old.now
    → FindsOnly new (λ db. old.may_leave db.trees ⊎ HasBook (book_after zone default H r) db)

-- after an open of a ledger of an older version: its rows in the current version; of the current version: these, or what
-- could be found before
abbrev pub FindsOpened : State → State → Type 0
FindsOpened old new =
    (b : Book) (has : HasStored b old.now)
    → Since (nat_le 3 has.tables.setting.version) (FindsOnly new (λ db. old.may_leave db.trees ⊎ HasBook b db))
    (FindsOnly new (HasBook b))
