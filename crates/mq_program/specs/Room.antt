-- What a server gives up where its disk is full.
use Rattle.std.specs.Prelude.{◌≡◌, ◌⊎◌, ℕ, ◌/◌, Bool, true, false, min}
use Rattle.std.specs.declared.io.ErrorKind.{ErrorKind}
use Rattle.std.specs.declared.io.ErrorKind.TheVariants.{StorageFull, QuotaExceeded}
use Rattle.mq_program.specs.declared.caretaker.Spare.{Spare}
use Rattle.mq_program.specs.declared.caretaker.Spare.TheVariants.{NewLedger, FormerLedger, Reserve, Nothing}

-- a write fails so for want of room: the disk has none, or the owner may have no more of it
abbrev pub IsFull : ErrorKind → Type 0
IsFull kind = (kind ≡ StorageFull) ⊎ (kind ≡ QuotaExceeded)

-- the whole blocks of 65,536 bytes in so many bytes, up to so many
abbrev pub blocks_up_to : ℕ → ℕ → ℕ
blocks_up_to most bytes = min (bytes / 65536) most

-- The new ledger that is being filled goes first, then the former ledger, and the reserve only where neither is there.
abbrev pub what_goes : Bool → Bool → Bool → Spare
what_goes true _ _ = NewLedger
what_goes false true _ = FormerLedger
what_goes false false true = Reserve
what_goes false false false = Nothing
