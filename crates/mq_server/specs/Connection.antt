-- What the serving of one connection reads and writes.
use Rattle.std.specs.Prelude.{◌≡◌, ℕ, ◌+◌, ◌<◌, List, [], ◌∷◌, ◌++◌, length, Option, Result, Ok, Err}
use Rattle.std.specs.Io.KnownBytes.{Appends, Consumes}
use Rattle.mq_frame.specs.declared.feed.TheConstants.{REQUEST_LIMIT}
use Rattle.mq_request.specs.declared.message.Reply.{Reply}
use Rattle.mq_frame.specs.Feed.{Front}
use Rattle.mq_ledger.specs.declared.ledger.ReportedCall.{ReportedCall}
use Rattle.mq_server.specs.declared.connection.EndCause.{EndCause}
use Rattle.mq_server.specs.declared.fault.ServeFault.{ServeFault}
use Rattle.mq_server.specs.declared.fault.ServeFault.TheVariants.{Read, Write, Memory, Store}
use Rattle.mq_server.specs.declared.input.TheConstants.{PIECE}
use Rattle.mq_server.specs.Delivery.{Delivery, asked, calls, failed_call}
use Rattle.mq_server.specs.Text.{Asks, IsEnd, next, served}
use Rattle.mq_server.specs.Exits.{LeavesAtRead, LeavesAtWrite, LeavesAtMemory, LeavesAtStore}

-- the bytes that a source has left and those that a sink holds, each where it is known
pub record Wire : Type 0 where
  pub remaining : Option (List ℕ)
  pub contents : Option (List ℕ)

-- the text that was written when the serving ended so, with this after the frames of the deliveries
abbrev pub Leaves : (List Delivery → Delivery → Reply) → List Delivery → Front → List ℕ
    → Option (List ℕ) → Result EndCause ServeFault → Type 0
Leaves answer came behind text left (Ok e) = (text ≡ served answer came e) × IsEnd e (length came) behind left
Leaves answer came behind text left (Err Read) = LeavesAtRead answer came behind text
Leaves answer came behind text left (Err Write) = LeavesAtWrite answer came behind text
Leaves answer came behind text left (Err Memory) = LeavesAtMemory answer came behind text
Leaves answer came behind text left (Err Store) = LeavesAtStore answer came behind text

-- A connection was served: bytes were read, which begin with the frames of these deliveries; a text was written;
-- and no more was read ahead than the rest of a frame and a piece.
pub record Serves (answer : List Delivery → Delivery → Reply) (came : List Delivery) (old new : Wire)
    (result : Result EndCause ServeFault) : Type 0 where
  pub read : List ℕ
  pub rest : List ℕ
  pub text : List ℕ
  pub consumed : Consumes old.remaining new.remaining read
  pub written : Appends old.contents new.contents text
  pub asks : Asks read (asked came) rest
  pub ahead : length rest < REQUEST_LIMIT + 2 + PIECE
  pub leaves : Leaves answer came (next rest) text new.remaining result

-- the call after those of the deliveries: the one at which the store failed, where it did
abbrev pub last_call : (answer : List Delivery → Delivery → Reply) (came : List Delivery) (behind : Front)
    (text : List ℕ) (left : Option (List ℕ)) (result : Result EndCause ServeFault)
    → Leaves answer came behind text left result → List ReportedCall
last_call answer came behind text left (Ok e) leaves = []
last_call answer came behind text left (Err Read) leaves = []
last_call answer came behind text left (Err Write) leaves = []
last_call answer came behind text left (Err Memory) leaves = []
last_call answer came behind text left (Err Store) leaves = failed_call leaves.request ∷ []

-- the calls of `apply` that the serving of a connection made, each with its answer
abbrev pub calls_of : {answer : List Delivery → Delivery → Reply} {came : List Delivery} {old new : Wire}
    {result : Result EndCause ServeFault}
    → Serves answer came old new result → List ReportedCall
calls_of {answer = answer} {came = came} {new = new} {result = result} s =
    calls answer came ++ last_call answer came (next s.rest) s.text new.remaining result s.leaves
