-- A new ledger that takes over what another one remembers, beside the requests to that one.
use Rattle.std.specs.Prelude.{◌≡◌, ℕ, ◌-◌, ◌*◌, ◌%◌, ⊤, Option, None, Some, Result, Ok, Err, IfOk}
use Rattle.std.specs.Duration.{as_nanos}
use Rattle.sqlite.specs.State.{State, HasCleanDisk}
use Rattle.sqlite.specs.Tree.{Trees}
use Rattle.mq_request.specs.Range.{IsMoment}
use Rattle.mq_ledger.specs.Day.{day_of}
use Rattle.mq_ledger.specs.Legal.{Book}
use Rattle.mq_ledger.specs.declared.ledger.LedgerFault.{LedgerFault}
use Rattle.mq_ledger.specs.declared.zone.Zone.{Zone}
use Rattle.mq_chore.specs.declared.chore.Piece.{Piece}
use Rattle.mq_chore.specs.declared.chore.Piece.TheVariants.{Later}
use Rattle.mq_chore.specs.Choring.{HasCome}
use Rattle.mq_forget.specs.Remembered.{remembered}
use Rattle.mq_store.specs.declared.renewal_place.RenewalPlace.{RenewalPlace}
use Rattle.mq_store.specs.Renewing.{HasCarried}
use Rattle.mq_store.specs.Soundness.{HasKept, IsSound, book_in}
use Rattle.mq_nights.specs.declared.due.DueDays.{DueDays}
use Rattle.mq_nights.specs.declared.due.DueDays.TheVariants.{Nothing as NoDay, NoneBefore, Before}
use Rattle.mq_nights.specs.declared.lookout.Sight.{Sight}
use Rattle.mq_nights.specs.declared.lookout.Sight.TheVariants.{Nothing, Before as Sighted}
use Rattle.mq_nights.specs.Due.{IsDue, night_of}

-- days are seen only where they are due of this book at some moment that was shown
abbrev pub FindsDue : (ℕ → Type 0) → ℕ → Book → Sight → Type 0
FindsDue shows keep b (Nothing time) = ⊤
FindsDue shows keep b (Sighted day) = (moment : ℕ) × IsMoment moment × shows moment × IsDue keep moment b (Before day)

-- Between these books, to which requests came: the days before this one were due of what the ledger meant then, at a moment
-- that was shown.
pub record WasDue (shows : ℕ → Type 0) (keep day : ℕ) (begun now : Book) : Type 0 where
  pub book : Book
  pub before : HasCome begun book
  pub found : FindsDue shows keep book (Sighted day)
  pub since : HasCome book now

-- there is nothing to do for so many seconds
abbrev pub IsRest : ℕ → Sight → Type 0
IsRest seconds (Nothing time) = as_nanos time ≡ seconds * 1000000000
IsRest seconds (Sighted day) = ⊥

-- it looks again at the next quarter of an hour
abbrev pub RestsToQuarter : ℕ → Sight → Type 0
RestsToQuarter moment sight = IsRest (900 - moment % 900) sight

-- What is seen of what is due at a moment, and the first kept day that was seen to before and after. Days are seen once; else it
-- looks again at the next quarter of an hour, or after a fault in an hour.
abbrev pub Sees : ℕ → Result DueDays LedgerFault → (before after : Option ℕ) → Sight → Type 0
Sees moment (Ok (Before day)) before after sight =
    (after ≡ Some day) × (before ≡ Some day → RestsToQuarter moment sight) × ((before ≡ Some day → ⊥) → sight ≡ Sighted day)
Sees moment (Ok (NoneBefore day)) before after sight = (after ≡ Some day) × RestsToQuarter moment sight
Sees moment (Ok NoDay) before after sight = (after ≡ before) × RestsToQuarter moment sight
Sees moment (Err fault) before after sight = (after ≡ None) × IsRest 3600 sight

-- At a moment what is due of this book is seen, or there was a fault; where the first day that is kept at most this night was
-- seen to already, that very one, it isn't looked.
abbrev pub Looks : ℕ → ℕ → Book → (before after : Option ℕ) → Sight → Type 0
Looks keep moment b before after sight =
    (before ≡ Some (night_of b.zone moment - keep) → (after ≡ before) × RestsToQuarter moment sight)
    × ((before ≡ Some (night_of b.zone moment - keep) → ⊥)
    → (due : Result DueDays LedgerFault) × IfOk due (IsDue keep moment b) × Sees moment due before after sight)

-- it looks again in some time
abbrev pub Rests : Piece → Type 0
Rests (Later time) = ⊤
Rests _ = ⊥

-- it looks again in an hour, whatever was seen to
abbrev pub RestsAnHour : Option ℕ → Piece → Type 0
RestsAnHour first (Later time) = (first ≡ None) × (as_nanos time ≡ 3600 * 1000000000)
RestsAnHour _ _ = ⊥

-- the new tables are those of what is remembered of the first entries of this book
abbrev pub IsUnderWay : Book → ℕ → RenewalPlace → State → State → Type 0
IsUnderWay b day reached new scratch =
    HasKept new → HasCarried b.zone b.default day b.history reached new.now scratch.now

-- a renewal has the terms of a book, its day has become due, and it has so much of the book where the new store was fresh
abbrev pub FitsNight : Type 0 → (ℕ → Type 0) → ℕ → Book → Book → Zone → ℕ → ℕ → RenewalPlace → State → State → Type 0
FitsNight fresh shows keep begun b zone default day at new scratch =
    (zone ≡ b.zone) × (default ≡ b.default) × WasDue shows keep day begun b × (fresh → IsUnderWay b day at new scratch)

-- The new store is a sound ledger that has exactly what is remembered of this book, and a crash leaves the whole of it.
pub record HasRenewed (b : Book) (day : ℕ) (new : State) : Type 0 where
  pub sound : HasKept new → IsSound b.zone b.default new
  pub history : HasKept new
      → (book_in b.zone b.default new.now).history ≡ remembered (day_of b.zone) day b.history
  pub whole : HasCleanDisk new → (db : Trees) → new.may_leave db → db ≡ new.now.trees

-- a renewal has the terms of a book, its day has become due, and the new store has all that is remembered of the book where it
-- was fresh
abbrev pub EndsNight : Type 0 → (ℕ → Type 0) → ℕ → Book → Book → Zone → ℕ → ℕ → State → Type 0
EndsNight fresh shows keep begun b zone default day new =
    (zone ≡ b.zone) × (default ≡ b.default) × WasDue shows keep day begun b × (fresh → HasRenewed b day new)
