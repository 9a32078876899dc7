-- What a connection holds between two calls, and what an attempt to answer does to it.
use Rattle.std.specs.Prelude.{◌≡◌, ◌⊎◌, ℕ, suc, ◌+◌, ◌<◌, ◌≤◌, List, [], ◌++◌, length, Bool, true, false, Option, None, Some, Result, Ok, Err}
use Rattle.mq_request.specs.declared.message.Reply.{Reply}
use Rattle.mq_request.specs.declared.message.Reply.TheVariants.{Bad}
use Rattle.mq_frame.specs.Feed.{Nothing, Cut, Whole}
use Rattle.mq_frame.specs.Spelling.{frame, reply_body}
use Rattle.mq_ledger.specs.declared.entry.Entry.{Entry}
use Rattle.mq_ledger.specs.declared.ledger.ReportedCall.{ReportedCall}
use Rattle.mq_ledger.specs.Legal.{Book}
use Rattle.mq_lemmas.specs.Told.{Tells}
use Rattle.mq_server.specs.declared.connection.Progress.{Progress}
use Rattle.mq_server.specs.declared.connection.Progress.TheVariants.{Answered, Waits, Ended}
use Rattle.mq_server.specs.declared.connection.EndCause.{EndCause}
use Rattle.mq_server.specs.declared.connection.EndCause.TheVariants.{InputEnd, Enough, BadFrame, CutFrame}
use Rattle.mq_server.specs.declared.connection.TheConstants.{ENOUGH}
use Rattle.mq_server.specs.declared.fault.ServeFault.{ServeFault}
use Rattle.mq_server.specs.declared.fault.ServeFault.TheVariants.{Read, Write, Memory, Store}
use Rattle.mq_server.specs.Steps.{AnswersBody}
use Rattle.mq_server.specs.Held.{State}
use Rattle.mq_server.specs.Text.{IsBad, IsPartial, MayLackMemory, next}

-- the frames answered so far: fewer than are answered in all while it goes on
abbrev pub IsCount : Option (Result EndCause ServeFault) → ℕ → Type 0
IsCount None answered = answered < ENOUGH
IsCount (Some end) answered = answered ≤ ENOUGH

-- the frame of a request stood at the front of these bytes, before those, and its reply was added to the replies
abbrev pub Replies : Book → Option (List ReportedCall) → List ℕ → List ℕ → List ℕ → List ℕ → List Entry → Option (List ReportedCall) → Type 0
Replies b told rest replies rest' replies' history tells =
    (body : List ℕ) × (reply : Reply) × (next rest ≡ Whole body rest')
    × (replies' ≡ replies ++ frame (reply_body reply)) × AnswersBody b told body (Ok (Some reply)) history tells

-- replies that have so much room have none for the frame of one more
abbrev pub HasNoRoom : ℕ → List ℕ → Reply → Type 0
HasNoRoom room replies reply = room < length replies + length (frame (reply_body reply))

-- a reply's frame was added, or had no room
abbrev pub IsAdded : List ℕ → List ℕ → Progress → List ℕ → Type 0
IsAdded replies bytes Answered replies' = replies' ≡ replies ++ bytes
IsAdded replies bytes Waits replies' = ⊥
IsAdded replies bytes (Ended end) replies' = (end ≡ Err Memory) × (replies' ≡ replies)

-- Bad was added, or had no room
abbrev pub IsRefused : List ℕ → Result EndCause ServeFault → List ℕ → Type 0
IsRefused replies (Ok end) replies' = (end ≡ BadFrame) × (replies' ≡ replies ++ frame (reply_body Bad))
IsRefused replies (Err fault) replies' = (fault ≡ Memory) × (replies' ≡ replies)

-- no request came to the ledger
abbrev pub IsQuiet : Book → Option (List ReportedCall) → List Entry → Option (List ReportedCall) → Type 0
IsQuiet b told history tells = (history ≡ b.history) × Tells told tells []

-- How it ends at what stands at the front: at the input's end; by Bad to what is no request; by the last answer; where
-- there was no memory for what the request holds, for its reply or for Bad; where the store failed.
abbrev pub Ends : Book → Option (List ReportedCall) → Bool → List ℕ → List ℕ → Result EndCause ServeFault
    → List ℕ → List ℕ → List Entry → Option (List ReportedCall) → Type 0
Ends b told closed rest replies (Ok InputEnd) rest' replies' history tells =
    (closed ≡ true) × (next rest ≡ Nothing) × (replies' ≡ replies) × IsQuiet b told history tells
Ends b told closed rest replies (Ok CutFrame) rest' replies' history tells =
    (closed ≡ true) × (next rest ≡ Cut) × (replies' ≡ replies) × IsQuiet b told history tells
Ends b told closed rest replies (Ok BadFrame) rest' replies' history tells =
    IsBad (next rest) × (replies' ≡ replies ++ frame (reply_body Bad)) × IsQuiet b told history tells
Ends b told closed rest replies (Ok Enough) rest' replies' history tells =
    Replies b told rest replies rest' replies' history tells
Ends b told closed rest replies (Err Memory) rest' replies' history tells =
    (replies' ≡ replies) × ((MayLackMemory (next rest) × IsQuiet b told history tells)
    ⊎ ((body : List ℕ) × (reply : Reply) × (next rest ≡ Whole body rest')
    × AnswersBody b told body (Ok (Some reply)) history tells))
Ends b told closed rest replies (Err Store) rest' replies' history tells =
    (replies' ≡ replies) × ((body : List ℕ) × (after : List ℕ) × (next rest ≡ Whole body after)
    × AnswersBody b told body (Err Store) history tells)
Ends b told closed rest replies (Err Read) rest' replies' history tells = ⊥
Ends b told closed rest replies (Err Write) rest' replies' history tells = ⊥

-- What an attempt does to the bytes that weren't answered and to the replies, and to a ledger of that book, which then
-- has this history and reports that more.
abbrev pub Steps : Book → Option (List ReportedCall) → Bool → List ℕ → List ℕ → Progress
    → List ℕ → List ℕ → List Entry → Option (List ReportedCall) → Type 0
Steps b told closed rest replies Answered rest' replies' history tells =
    Replies b told rest replies rest' replies' history tells
Steps b told closed rest replies Waits rest' replies' history tells = IsQuiet b told history tells
Steps b told closed rest replies (Ended end) rest' replies' history tells =
    Ends b told closed rest replies end rest' replies' history tells

-- Where it ended for memory: the ledger wasn't asked, and there was none for what the request holds, or the replies had no
-- room for Bad; or it was asked, and they had no room for its reply.
abbrev pub LacksMemory : Book → Option (List ReportedCall) → ℕ → List ℕ → List ℕ → List ℕ → List Entry → Option (List ReportedCall) → Type 0
LacksMemory b told room rest replies rest' history tells =
    (MayLackMemory (next rest) × (IsBad (next rest) → HasNoRoom room replies Bad) × IsQuiet b told history tells)
    ⊎ ((body : List ℕ) × (reply : Reply) × (next rest ≡ Whole body rest') × HasNoRoom room replies reply
    × AnswersBody b told body (Ok (Some reply)) history tells)

-- an end that a connection comes to by itself, before the last answer
abbrev pub IsOwnEnd : Result EndCause ServeFault → Type 0
IsOwnEnd (Ok InputEnd) = Unit {0}
IsOwnEnd (Ok CutFrame) = Unit {0}
IsOwnEnd (Ok BadFrame) = Unit {0}
IsOwnEnd (Ok Enough) = ⊥
IsOwnEnd (Err Memory) = Unit {0}
IsOwnEnd (Err Store) = Unit {0}
IsOwnEnd (Err Read) = ⊥
IsOwnEnd (Err Write) = ⊥

-- the same of any ledger, sound or not
abbrev pub Moves : Bool → List ℕ → List ℕ → Progress → List ℕ → List ℕ → Type 0
Moves closed rest replies Answered rest' replies' = length rest' < length rest
Moves closed rest replies Waits rest' replies' =
    (closed ≡ false) × IsPartial (next rest) × (rest' ≡ rest) × (replies' ≡ replies)
Moves closed rest replies (Ended end) rest' replies' = (length rest' ≤ length rest) × IsOwnEnd end

-- the last answer ends a connection; any other end is its own
abbrev pub IsLast : Result EndCause ServeFault → State → State → Type 0
IsLast (Ok Enough) old new = (new.answered ≡ suc old.answered) × (new.answered ≡ ENOUGH)
IsLast end old new = IsOwnEnd end × (new.answered ≡ old.answered)

-- what an attempt makes of a connection that hasn't ended, of any ledger
abbrev pub Goes : State → Progress → State → Type 0
Goes old Answered new =
    (new.end ≡ None) × (new.answered ≡ suc old.answered) × (new.answered < ENOUGH) × (new.is_closed ≡ old.is_closed)
    × (length new.rest < length old.rest)
Goes old Waits new = (new ≡ old) × (old.is_closed ≡ false) × IsPartial (next old.rest)
Goes old (Ended end) new =
    (new.end ≡ Some end) × IsLast end old new × (new.is_closed ≡ old.is_closed) × (length new.rest ≤ length old.rest)
