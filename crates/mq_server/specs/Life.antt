-- The whole life of a connection: all bytes that came, all requests with their answers, and all bytes of replies.
use Rattle.std.specs.Prelude.{◌≡◌, ◌≢◌, ℕ, ◌<◌, ◌≤◌, List, [], ◌++◌, length, map, Bool, true, Option, None, Some, IfNone, IsSome, Result, Ok, Err, ⊤}
use Rattle.std.specs.Option.{option_to_list}
use Rattle.mq_request.specs.declared.message.Request.{Request}
use Rattle.mq_request.specs.declared.message.Request.TheVariants.{Reserve, Settle, Release}
use Rattle.mq_request.specs.declared.message.Reply.{Reply}
use Rattle.mq_frame.specs.Feed.{Whole}
use Rattle.mq_frame.specs.Spelling.{SpellsRequest}
use Rattle.mq_ledger.specs.declared.entry.Entry.{Entry}
use Rattle.mq_ledger.specs.declared.ledger.ReportedCall.{ReportedCall}
use Rattle.mq_ledger.specs.Legal.{Book}
use Rattle.mq_lemmas.specs.Told.{Tells}
use Rattle.mq_server.specs.declared.connection.Progress.{Progress}
use Rattle.mq_server.specs.declared.connection.Progress.TheVariants.{Answered, Ended}
use Rattle.mq_server.specs.declared.connection.EndCause.{EndCause}
use Rattle.mq_server.specs.declared.connection.EndCause.TheVariants.{InputEnd, Enough, BadFrame, CutFrame}
use Rattle.mq_server.specs.declared.connection.TheConstants.{ENOUGH}
use Rattle.mq_server.specs.declared.fault.ServeFault.{ServeFault}
use Rattle.mq_server.specs.declared.fault.ServeFault.TheVariants.{Read, Write, Memory, Store}
use Rattle.mq_server.specs.Delivery.{Delivery, asked, answers, answer_to, call, failed_call, history_after}
use Rattle.mq_server.specs.Held.{State}
use Rattle.mq_server.specs.Text.{Asks, IsEnd, MayLackMemory, farewell, frames_of, next}

-- a request that came on a connection, whether the ledger took it, and its answer
pub record Exchange : Type 0 where
  pub delivery : Delivery
  pub answer : Reply

-- a request that the ledger took, with its reply
abbrev pub taken : Request → Reply → Exchange
taken request reply = record { delivery = record { request = request; taken = true }; answer = reply }

-- a reserve, a settle or a release
abbrev pub IsOfTransaction : Request → Type 0
IsOfTransaction (Reserve id txn moment login count) = ⊤
IsOfTransaction (Settle id txn moment login count) = ⊤
IsOfTransaction (Release id txn moment login) = ⊤
IsOfTransaction _ = ⊥

-- the deliveries of exchanges, and their answers
abbrev pub deliveries : List Exchange → List Delivery
deliveries xs = map (λ x. x.delivery) xs

abbrev pub replies_of : List Exchange → List Reply
replies_of xs = map (λ x. x.answer) xs

-- a life so far: all bytes that came, the exchanges, the bytes after their frames, and all bytes of replies that were
-- taken
pub record Life : Type 0 where
  pub bytes : List ℕ
  pub exchanges : List Exchange
  pub rest : List ℕ
  pub taken : List ℕ

-- the life of a connection on which nothing came yet
abbrev pub unborn : Life
unborn = record { bytes = []; exchanges = []; rest = []; taken = [] }

-- more bytes came
abbrev pub with_bytes : Life → List ℕ → Life
with_bytes l piece =
    record { bytes = l.bytes ++ piece; exchanges = l.exchanges; rest = l.rest ++ piece; taken = l.taken }

-- more exchanges, with these bytes after them
abbrev pub with_exchanges : Life → List Exchange → List ℕ → Life
with_exchanges l xs rest = record { bytes = l.bytes; exchanges = l.exchanges ++ xs; rest = rest; taken = l.taken }

-- more bytes of replies were taken
abbrev pub with_taken : Life → List ℕ → Life
with_taken l taken =
    record { bytes = l.bytes; exchanges = l.exchanges; rest = l.rest; taken = l.taken ++ taken }

-- an end that comes at the input's end
abbrev pub NeedsClose : EndCause → Bool → Type 0
NeedsClose InputEnd closed = closed ≡ true
NeedsClose CutFrame closed = closed ≡ true
NeedsClose BadFrame closed = Unit {0}
NeedsClose Enough closed = Unit {0}

-- all replies of a connection, by how it ended
abbrev pub HasReplies : Life → List ℕ → State → Option (Result EndCause ServeFault) → Type 0
-- it goes on: those to all its requests
HasReplies l text c None =
    (text ≡ frames_of (replies_of l.exchanges)) × (length l.exchanges ≡ c.answered) × (c.answered < ENOUGH)
    × (c.rest ≡ l.rest)
-- it was served to its end: those, and the farewell
HasReplies l text c (Some (Ok e)) =
    (text ≡ frames_of (replies_of l.exchanges ++ farewell e)) × IsEnd e (length l.exchanges) (next l.rest) (Some [])
    × NeedsClose e c.is_closed
-- a growth was refused: those to all its requests, but to the last where it was its reply that found no room; else it
-- was one for what stands next
HasReplies l text c (Some (Err Memory)) = (done : List Exchange) × (last : Option Exchange)
    × (l.exchanges ≡ done ++ option_to_list last) × (length done < ENOUGH) × IfNone last (MayLackMemory (next l.rest))
    × (text ≡ frames_of (replies_of done))
-- the store failed at the request that stands next
HasReplies l text c (Some (Err Store)) = (text ≡ frames_of (replies_of l.exchanges)) × (length l.exchanges < ENOUGH)
    × ((request : Request) × (body : List ℕ) × (after : List ℕ) × (next l.rest ≡ Whole body after)
    × SpellsRequest body request)
HasReplies l text c (Some (Err Read)) = ⊥
HasReplies l text c (Some (Err Write)) = ⊥

-- A connection has this life: the frames of its requests came, with the rest after them, and the replies that were
-- taken and those that wait are, together, all that it has answered.
pub record Lives (l : Life) (c : State) : Type 0 where
  pub asks : Asks l.bytes (asked (deliveries l.exchanges)) l.rest
  pub replies : HasReplies l (l.taken ++ c.replies) c c.end

-- Exchanges with a ledger that meant this book, and that then has this history: each answer is the ledger's, over what
-- came before it, and nothing else came.
pub record AreAnswered (b : Book) (xs : List Exchange) (history : List Entry) : Type 0 where
  pub replies : replies_of xs ≡ answers (answer_to b) (deliveries xs)
  pub after : history ≡ history_after b (deliveries xs)

-- so many exchanges came: all that were asked for, or fewer where no further frame was there to answer
pub record Counts (progress : Progress) (most count : ℕ) : Type 0 where
  pub within : count ≤ most
  pub all : progress ≡ Answered → count ≡ most

-- the calls of `apply` that exchanges are
abbrev pub told_of : List Exchange → List ReportedCall
told_of xs = map (λ x. call x.delivery x.answer) xs

-- The calls that were made on a connection, of which some end had come before: one for each exchange and, only where its
-- store failed, the one at which it did.
pub record MakesCalls (was : Option (Result EndCause ServeFault)) (progress : Progress)
    (before after : Option (List ReportedCall)) (xs : List Exchange) : Type 0 where
  pub failed : Option Request
  pub told : Tells before after (told_of xs ++ map failed_call (option_to_list failed))
  pub ends : IsSome failed → progress ≡ Ended (Err Store)
  pub only : was ≢ Some (Err Store) → progress ≡ Ended (Err Store) → IsSome failed

-- where the store failed at a request, its frame stands next
abbrev pub StandsNext : Option Request → List ℕ → Type 0
StandsNext None rest = Unit {0}
StandsNext (Some request) rest =
    (body : List ℕ) × (after : List ℕ) × (next rest ≡ Whole body after) × SpellsRequest body request
