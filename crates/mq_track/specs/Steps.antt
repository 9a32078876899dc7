-- What an event makes of a tracker, and the closing that it brings.
use Rattle.std.specs.Prelude.{◌≡◌, ℕ, ◌+◌, List, if◌then◌else◌, Bool, true, false, Option, None, Some}
use Rattle.std.specs.Option.{option_and_then}
use Rattle.mq_track.specs.Events.{Event, Passed, Began, Ended, Left, Nothing}
use Rattle.mq_track.specs.Sessions.{Transaction, is_named}
use Rattle.mq_track.specs.State.{State, Known, known, nothing, Learns}
use Rattle.mq_track.specs.declared.closing.Closing.{Closing}
use Rattle.mq_track.specs.declared.closing.CloseEnd.{CloseEnd}
use Rattle.mq_track.specs.declared.closing.CloseEnd.TheVariants.{Rollback}

-- the closing of an open transaction, where an ending with this message id ends it
abbrev pub closed_by : Option (List ℕ) → CloseEnd → Transaction → Option Closing
closed_by message end o = if is_named message o.message then Some (record { txn = o.txn; end = end }) else None

-- the same of the transaction that is open in s
abbrev pub closing_in : State → List ℕ → Option (List ℕ) → CloseEnd → Option Closing
closing_in t s message end = option_and_then (closed_by message end) (known t.sessions s).transaction

-- the closing that an event brings
abbrev pub brought : State → Event → Option Closing
brought t (Passed s login) = None
brought t (Began s message moment) = closing_in t s None Rollback
brought t (Ended s message end) = closing_in t s message end
brought t (Left s) = closing_in t s None Rollback
brought t Nothing = None

-- what is left of an open transaction after an ending with this message id
abbrev pub left_open : Option (List ℕ) → Transaction → Option Transaction
left_open message o = if is_named message o.message then None else Some o

-- login and open transaction of s, and the count of tx-begins; no other session changes
abbrev pub Sets : State → State → List ℕ → Known → ℕ → Type 0
Sets old new s what begins = Learns old.sessions new.sessions s what × (new.begins ≡ begins)

-- what an event changes
abbrev pub Steps : State → State → Event → Type 0
Steps old new (Passed s login) = Sets old new s
    (record { login = Some login; transaction = (known old.sessions s).transaction })
    old.begins
Steps old new (Began s message moment) = Sets old new s
    (record {
      login = (known old.sessions s).login;
      transaction = Some (record { txn = old.begins + 1; message = message; moment = moment });
    })
    (old.begins + 1)
Steps old new (Ended s message end) = Sets old new s
    (record {
      login = (known old.sessions s).login;
      transaction = option_and_then (left_open message) (known old.sessions s).transaction;
    })
    old.begins
Steps old new (Left s) = Sets old new s nothing old.begins
Steps old new Nothing = new ≡ old

-- the event needs memory
abbrev pub needs_memory : Event → Bool
needs_memory (Passed s login) = true
needs_memory (Began s message moment) = true
needs_memory _ = false
