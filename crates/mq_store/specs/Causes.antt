-- Why a ledger's store failed.
use Rattle.std.specs.Prelude.{◌≡◌, ℕ, ◌≤◌, List, length, Bool, true, false, if◌then◌else◌, Option, Some, None, ⊤}
use Rattle.sqlite.specs.Effect.{Database}
use Rattle.sqlite.specs.declared.error.ErrorCode.TheVariants.{Closed, OutOfMemory}
use Rattle.sqlite.specs.declared.error.Error.{Error}
use Rattle.sqlite.specs.declared.error.Error.TheVariants.{SqliteFailure}
use Rattle.mq_request.specs.declared.message.Id.{Id}
use Rattle.mq_ledger.specs.declared.entry.Entry.{Entry}
use Rattle.mq_ledger.specs.declared.ledger.LedgerFault.{LedgerFault}
use Rattle.mq_ledger.specs.declared.ledger.LedgerFault.TheVariants as ledger
use Rattle.mq_ledger.specs.declared.zone.Zone.{Zone}
use Rattle.mq_ledger.specs.Answer.{known_by}
use Rattle.mq_store.specs.declared.fault.StoreCause.{StoreCause}
use Rattle.mq_store.specs.declared.fault.StoreCause.TheVariants as cause
use Rattle.mq_store.specs.declared.fault.Refusal.{Refusal}
use Rattle.mq_store.specs.declared.fault.Refusal.TheVariants.{Memory, Store}
use Rattle.mq_store.specs.Taking.{HasBook, book_of}

-- where the library refuses a statement so: memory that runs out, and any other cause
abbrev pub refused_by : Error → Refusal
refused_by (SqliteFailure OutOfMemory) = Memory
refused_by e = Store (cause.Refused e)

-- where the rows that were read decide nothing
abbrev pub refused_at : LedgerFault → Refusal
refused_at ledger.Memory = Memory
refused_at ledger.Store = Store cause.Content

-- what the ledger answers
abbrev pub answer_to : Refusal → LedgerFault
answer_to Memory = ledger.Memory
answer_to (Store c) = ledger.Store

-- why the store failed, where it did
abbrev pub cause_in : Refusal → Option StoreCause
cause_in Memory = None
cause_in (Store c) = Some c

-- the library says that it closed the store at a failure before
abbrev pub is_closed : StoreCause → Bool
is_closed (cause.Refused (SqliteFailure Closed)) = true
is_closed _ = false

-- why the store failed: what the library refused before, where that closed the store, and else what was found now
abbrev pub first_cause : Option StoreCause → Option StoreCause → Option StoreCause
first_cause (Some (cause.Refused e)) (Some found) = if is_closed found then Some (cause.Refused e) else Some found
first_cause before found = found

-- Over the rows of this history the store refused a statement, or as many answers are stored as there may be.
abbrev pub IsCauseOver : List Entry → Option StoreCause → Type 0
IsCauseOver H None = ⊤
IsCauseOver H (Some (cause.Refused e)) = ⊤
IsCauseOver H (Some cause.Content) = 4611686018427387904 ≤ length H

-- the cause is such a one over each history of which the tables are the rows
abbrev pub StopsOver : Zone → ℕ → Database → Refusal → Type 0
StopsOver zone default db refused = (H : List Entry) → HasBook (book_of zone default H) db → IsCauseOver H (cause_in refused)

-- the same over those of them to which the number is new
abbrev pub StopsNew : Zone → ℕ → Id → Database → Refusal → Type 0
StopsNew zone default id db refused =
    (H : List Entry) → HasBook (book_of zone default H) db → known_by H (Some id) ≡ false → IsCauseOver H (cause_in refused)

-- the same whatever the zone is
abbrev pub StopsReading : ℕ → Database → Refusal → Type 0
StopsReading default db refused = (zone : Zone) → StopsOver zone default db refused
