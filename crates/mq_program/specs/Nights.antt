-- What the ledgers of a server mean, night after night.
use Rattle.std.specs.Prelude.{◌≡◌, ℕ, List, [], ◌∷◌, ◌++◌, Option, None, Some, Result}
use Rattle.std.specs.List.{AllByRecursion}
use Rattle.sqlite.specs.State.{State}
use Rattle.mq_ledger.specs.declared.zone.Zone.{Zone}
use Rattle.mq_forget.specs.Remembered.{remembered_book}
use Rattle.mq_connections.specs.Asking.{out}
use Rattle.mq_connections.specs.Gained.{Callers}
use Rattle.mq_connections.specs.Sessions.{HaveServed, Outside}
use Rattle.mq_connections.specs.Wires.{Wire}
use Rattle.mq_nights.specs.Nights.{WasDue}
use Rattle.mq_store.specs.Soundness.{book_in, HasKept, IsSound}
use Rattle.mq_program.specs.declared.fault.ProgramFault.{ProgramFault}
use Rattle.mq_program.specs.Serving.{Serves}

-- The store of a ledger of this zone and default is as it was: at most it was asked something.
pub record IsAsBefore (zone : Zone) (default : ℕ) (old new : State) : Type 0 where
  pub kept : HasKept new → HasKept old
  pub same : HasKept new → new.now ≡ old.now
  pub sound : HasKept new → IsSound zone default old → IsSound zone default new

-- this one was closed last, where it is known which were
abbrev pub Closes : {C : Type 0} → Option (List C) → C → Option (List C) → Type 0
Closes (Some before) last now = now ≡ Some (before ++ last ∷ [])
Closes None last now = now ≡ None

-- it is known which were closed, and it holds of each
abbrev pub AreKept : {C : Type 0} → (C → Type 0) → Option (List C) → Type 0
AreKept Is (Some closed) = AllByRecursion Is closed
AreKept Is None = ⊥

-- Connections were served, and the store never failed: each is a session over its wire, whose answers are those of a ledger of
-- the first book over what came to it before on any of them, and nothing else came to it. It gained what the peers on them may
-- ask.
abbrev pub AreServed : Callers → Outside → Outside → Type 0
AreServed who old new = HaveServed who old new None

-- From the first book and its wires on, night after night: connections were served, and then what isn't remembered from a day on
-- was forgotten, which had become due meanwhile of a ledger that keeps so many days, at a moment that was shown; or nothing was,
-- since the new ledger couldn't take the place of the former one.
pub data AfterNights (who : Callers) (shows : ℕ → Type 0) (keep : ℕ) (start : Outside) : Outside → Type 0 where
  Begun : AfterNights who shows keep start start
  Night : (b grown : Outside) (day : ℕ) → AfterNights who shows keep start b → AreServed who b grown
      → WasDue shows keep day b.book grown.book
      → AfterNights who shows keep start (out (remembered_book day grown.book) grown.wires)
  Stayed : (b grown : Outside) → AfterNights who shows keep start b → AreServed who b grown
      → AfterNights who shows keep start grown

-- the same, and then connections were served, which ended so
pub record ServesNights {A : Type 0} (who : Callers) (shows : ℕ → Type 0) (keep : ℕ) (start now : Outside)
    (outcome : Result A ProgramFault) : Type 0 where
  pub dawn : Outside
  pub nights : AfterNights who shows keep start dawn
  pub served : Serves who dawn now outcome

-- the sound store means what a ledger of this book means after a night, which left these wires
abbrev pub HasDawned : Callers → (ℕ → Type 0) → ℕ → Zone → ℕ → Outside → State → (ℕ → Wire) → Type 0
HasDawned who shows keep zone default old new wires =
    IsSound zone default new × AfterNights who shows keep old (out (book_in zone default new.now) wires)

-- the sound store means what a ledger of this book means after nights, and what was served since, which ended so and left these
-- wires
abbrev pub HasPassed : {A : Type 0} → Callers → (ℕ → Type 0) → ℕ → Zone → ℕ → Outside → State → (ℕ → Wire)
    → Result A ProgramFault → Type 0
HasPassed who shows keep zone default old new wires outcome =
    IsSound zone default new × ServesNights who shows keep old (out (book_in zone default new.now) wires) outcome
