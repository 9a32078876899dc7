-- Several requests that are taken together, in one transaction, and what a crash leaves of them.
use Rattle.std.specs.Prelude.{◌≡◌, ◌⊎◌, ℕ, List, ◌++◌, Bool, false, ⊤}
use Rattle.sqlite.specs.Effect.{Database, IsDatabase}
use Rattle.sqlite.specs.State.{State}
use Rattle.sqlite.specs.Tree.{Trees}
use Rattle.mq_request.specs.declared.message.Request.{Request}
use Rattle.mq_request.specs.declared.message.Reply.{Reply}
use Rattle.mq_ledger.specs.declared.entry.Entry.{Entry}
use Rattle.mq_ledger.specs.declared.zone.Zone.{Zone}
use Rattle.mq_ledger.specs.Answer.{history_of, replies_after}
use Rattle.mq_ledger.specs.Day.{day_of}
use Rattle.mq_ledger.specs.History.{requests}
use Rattle.mq_ledger.specs.Legal.{Book}
use Rattle.mq_store.specs.declared.take.TakenRequest.{TakenRequest}
use Rattle.mq_store.specs.declared.take.TakenRequest.TheVariants.{Read, Written}
use Rattle.mq_store.specs.Crash.{FindsOnly}
use Rattle.mq_store.specs.Taking.{HasBook, book_of}

-- the book whose history is that of these further arrivals
abbrev pub book_with : Zone → ℕ → List Entry → List Request → Book
book_with zone default H rs = book_of zone default (history_of (day_of zone) default (requests H ++ rs))

-- each reply is the ledger's over the history with the arrivals before it, and the tables are the rows of the history
-- with all of them, over each history of which the tables were the rows
abbrev pub AppliesAll : Zone → ℕ → List Request → List Reply → Database → Database → Type 0
AppliesAll zone default rs said old new =
    (H : List Entry) → HasBook (book_of zone default H) old
    → (said ≡ replies_after (day_of zone) default (requests H) rs) × HasBook (book_with zone default H rs) new

-- nothing is written
abbrev pub IsRead : TakenRequest → Type 0
IsRead (Read a) = ⊤
IsRead (Written a) = ⊥

-- so they are taken, and where nothing is written the store is as it was
abbrev pub AreTaken : Zone → ℕ → List Request → List Reply → Bool → Database → Database → Type 0
AreTaken zone default rs said is_written old new =
    AppliesAll zone default rs said old new × (is_written ≡ false → new ≡ old)

-- These trees are what the call leaves once it is done with all of them. So it is of each sound database that has these
-- trees.
pub record AreAllAppliedBy (zone : Zone) (default : ℕ) (rs : List Request) (said : List Reply) (old : Database) (trees : Trees)
    : Type 0 where
  pub new : Database
  pub applied : AppliesAll zone default rs said old new
  pub trees_are : new.trees ≡ trees
  pub opened : (db : Database) → IsDatabase db → db.trees ≡ trees → AppliesAll zone default rs said old db

-- so they are, with some replies
abbrev pub AreAllApplied : Zone → ℕ → List Request → Database → Trees → Type 0
AreAllApplied zone default rs old trees = (said : List Reply) × AreAllAppliedBy zone default rs said old trees

-- after the replies: exactly what the store then has, which is what all of them wrote; or, where they add nothing to the
-- history, what a crash could leave before
abbrev pub LeavesAll : Zone → ℕ → List Request → List Reply → State → State → Type 0
LeavesAll zone default rs said old new =
    (db : Trees) → new.may_leave db
    → ((db ≡ new.now.trees) × AreAllAppliedBy zone default rs said old.now db)
    ⊎ (AppliesAll zone default rs said old.now old.now × old.may_leave db)

-- what is found after the replies: the rows of the history with all arrivals, where a crash before left those of the
-- history
abbrev pub FindsAll : Zone → ℕ → List Request → State → State → Type 0
FindsAll zone default rs old new =
    (H : List Entry) → HasBook (book_of zone default H) old.now → FindsOnly old (HasBook (book_of zone default H))
    → FindsOnly new (HasBook (book_with zone default H rs))

-- after a fault: those, or what a crash before could leave
abbrev pub FindsAllOrNone : Zone → ℕ → List Request → State → State → Type 0
FindsAllOrNone zone default rs old new =
    (H : List Entry) → HasBook (book_of zone default H) old.now
    → FindsOnly new (λ db. old.may_leave db.trees ⊎ HasBook (book_with zone default H rs) db)
