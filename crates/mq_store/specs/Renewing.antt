-- A new ledger that takes over what an old one remembers step by step, while the old one goes on.
use Rattle.std.specs.Prelude.{◌≡◌, ℕ, ◌+◌, ◌-◌, ◌≤◌, List, take, length, Option, Some, None}
use Rattle.sqlite.specs.Effect.{Database}
use Rattle.mq_ledger.specs.declared.entry.Entry.{Entry}
use Rattle.mq_ledger.specs.declared.zone.Zone.{Zone}
use Rattle.mq_ledger.specs.Day.{day_of}
use Rattle.mq_forget.specs.Remembered.{remembered}
use Rattle.mq_store.specs.declared.carry.JudgedAnswer.{JudgedAnswer}
use Rattle.mq_store.specs.declared.renewal_place.RenewalPlace.{RenewalPlace}
use Rattle.mq_store.specs.Carrying.{IsJudged}
use Rattle.mq_store.specs.Taking.{HasBook, book_of}

-- The history has as many entries as were looked at. The new tables are the rows of what is remembered of these, which are
-- its first ones; and the scratch tables are the rows of those that were followed, its first ones too.
pub record HasCarried (zone : Zone) (default : ℕ) (D : ℕ) (H : List Entry) (at : RenewalPlace) (new scratch : Database) : Type 0 where
  pub within : at.place ≤ length H
  pub carried : HasBook (book_of zone default (remembered (day_of zone) D (take at.place H))) new
  pub followed : HasBook (book_of zone default (take at.followed H)) scratch

-- so many steps at most: each looks at one answer, and follows one or none
abbrev pub GoesAtMost : ℕ → RenewalPlace → RenewalPlace → Type 0
GoesAtMost count at to = (to.place ≤ at.place + count) × (to.followed ≤ at.followed + count)

-- how many answers came since there were so many; none before the first count
abbrev pub came_since : Option ℕ → ℕ → ℕ
came_since None now = 0
came_since (Some before) now = now - before

-- What steps do, whatever the old history is of which the tables are the rows.

-- what was taken over of it goes on
abbrev pub Renews : Zone → ℕ → ℕ → RenewalPlace → RenewalPlace → Database → (new new' scratch scratch' : Database) → Type 0
Renews zone default D at to from new new' scratch scratch' =
    (H : List Entry) → HasBook (book_of zone default H) from
    → HasCarried zone default D H at new scratch → HasCarried zone default D H to new' scratch'

-- so it does where that is told of the next entry
abbrev pub RenewsBy : Zone → ℕ → ℕ → JudgedAnswer → RenewalPlace → RenewalPlace → Database → (new new' scratch scratch' : Database) → Type 0
RenewsBy zone default D judged at to from new new' scratch scratch' =
    (H : List Entry) → HasBook (book_of zone default H) from → IsJudged (day_of zone) D H at.place judged
    → HasCarried zone default D H at new scratch → HasCarried zone default D H to new' scratch'

-- it has no further entry
abbrev pub IsThrough : Zone → ℕ → RenewalPlace → Database → Type 0
IsThrough zone default to from = (H : List Entry) → HasBook (book_of zone default H) from → length H ≤ to.place

-- it has so many entries
abbrev pub HasSoMany : Zone → ℕ → ℕ → Database → Type 0
HasSoMany zone default n from = (H : List Entry) → HasBook (book_of zone default H) from → n ≡ length H

-- what was taken over becomes all that is remembered of it
abbrev pub Ends : Zone → ℕ → ℕ → RenewalPlace → Database → (new new' scratch : Database) → Type 0
Ends zone default D at from new new' scratch =
    (H : List Entry) → HasBook (book_of zone default H) from
    → HasCarried zone default D H at new scratch → HasBook (book_of zone default (remembered (day_of zone) D H)) new'
