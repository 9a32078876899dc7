-- What the parts of serving do: one reads a piece, one puts a request to the ledger, one writes a frame.
use Rattle.std.specs.Prelude.{◌≡◌, ◌⊎◌, ℕ, ◌+◌, ◌<◌, List, [], ◌∷◌, length, true, Option, Some, None, Result}
use Rattle.std.specs.Prelude.{Ok, Err}
use Rattle.std.specs.Io.KnownBytes.{IsAtEnd}
use Rattle.mq_request.specs.declared.message.Request.{Request}
use Rattle.mq_request.specs.declared.message.Reply.{Reply}
use Rattle.mq_frame.specs.Spelling.{SpellsRequest}
use Rattle.mq_frame.specs.Feed.{Front, Nothing}
use Rattle.mq_ledger.specs.declared.entry.Entry.{Entry}
use Rattle.mq_ledger.specs.declared.ledger.ReportedCall.{ReportedCall}
use Rattle.mq_ledger.specs.Legal.{Book}
use Rattle.mq_lemmas.specs.Told.{Tells}
use Rattle.mq_server.specs.declared.connection.EndCause.{EndCause}
use Rattle.mq_server.specs.declared.connection.EndCause.TheVariants.{InputEnd, CutFrame}
use Rattle.mq_server.specs.declared.fault.ServeFault.{ServeFault}
use Rattle.mq_server.specs.declared.fault.ServeFault.TheVariants.{Read, Write, Memory, Store}
use Rattle.mq_server.specs.Delivery.{Delivery, answer_to, history_after, call, failed_call}
use Rattle.mq_server.specs.Held.{State, received, with_closed, with_room}
use Rattle.mq_server.specs.Text.{NeedsMemory, SpellsNone}

-- a read gave the piece, which the connection then holds too; or it was the end, and the connection is closed; or the
-- read failed; or the connection had no room for the piece
abbrev pub Refills : State → State → List ℕ → Option (List ℕ) → Result (Unit {0}) ServeFault → Type 0
Refills old new piece left (Ok done) =
    ((0 < length piece) × (new ≡ received old piece new.room))
    ⊎ ((piece ≡ []) × IsAtEnd left × (new ≡ with_closed old true))
Refills old new piece left (Err Read) = (piece ≡ []) × (new ≡ old)
Refills old new piece left (Err Memory) =
    (0 < length piece) × (new ≡ with_room old new.room) × (old.room < length old.rest + length piece)
Refills old new piece left (Err Write) = ⊥
Refills old new piece left (Err Store) = ⊥

-- A body was put to a ledger of that book, which then has this history and reports that more: its request came and has
-- an answer; or it spells none; or there was no memory for what its request holds, and it wasn't put; or the store
-- failed at it.
abbrev pub AnswersBody : Book → Option (List ReportedCall) → List ℕ → Result (Option Reply) ServeFault
    → List Entry → Option (List ReportedCall) → Type 0
AnswersBody b told body (Ok (Some answer)) history tells =
    (d : Delivery) × SpellsRequest body d.request × (answer ≡ answer_to b [] d) × (history ≡ history_after b (d ∷ []))
    × Tells told tells (call d answer ∷ [])
AnswersBody b told body (Ok None) history tells = SpellsNone body × (history ≡ b.history) × Tells told tells []
AnswersBody b told body (Err Memory) history tells =
    NeedsMemory body × (history ≡ b.history) × Tells told tells []
AnswersBody b told body (Err Store) history tells =
    (request : Request) × SpellsRequest body request × (history ≡ b.history)
    × Tells told tells (failed_call request ∷ [])
AnswersBody b told body (Err Read) history tells = ⊥
AnswersBody b told body (Err Write) history tells = ⊥

-- how a connection ends whose input does, by what stands after the frames that were answered
abbrev pub end_at : Front → EndCause
end_at Nothing = InputEnd
end_at _ = CutFrame
