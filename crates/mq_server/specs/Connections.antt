-- What the serving of several connections in turn reads and writes.
use Rattle.std.specs.Prelude.{◌≡◌, ◌≢◌, ℕ, List, [], ◌∷◌, ◌++◌, length, take, map, All, Bool, true, false}
use Rattle.std.specs.Prelude.{Option, Result, Ok, Err}
use Rattle.std.specs.List.{AllZip}
use Rattle.std.specs.Io.KnownBytes.{Appends}
use Rattle.mq_stream.specs.Flow.{IsFlushed}
use Rattle.mq_ledger.specs.declared.ledger.ReportedCall.{ReportedCall}
use Rattle.mq_ledger.specs.Legal.{Book}
use Rattle.mq_server.specs.declared.connection.EndCause.{EndCause}
use Rattle.mq_server.specs.declared.connections.ConnectionEnd.{ConnectionEnd}
use Rattle.mq_server.specs.declared.connections.ConnectionEnd.TheVariants as ends
use Rattle.mq_server.specs.declared.fault.ServeFault.{ServeFault}
use Rattle.mq_server.specs.declared.fault.ServeFault.TheVariants.{Read, Write, Memory, Store}
use Rattle.mq_server.specs.Delivery.{Delivery, answer_to, calls, history_after}
use Rattle.mq_server.specs.Connection.{Wire, Serves, calls_of}
use Rattle.mq_server.specs.Text.{IsServed, served}

-- the wires of sources and sinks, a pair each
abbrev pub wires : List (Option (List ℕ)) → List (Option (List ℕ)) → List Wire
wires [] held = []
wires (left ∷ lefts) [] = []
wires (left ∷ lefts) (holds ∷ held) = record { remaining = left; contents = holds } ∷ wires lefts held

-- how the serving of a connection ended
abbrev pub result_of : ConnectionEnd → Result EndCause ServeFault
result_of (ends.Served e) = Ok e
result_of ends.Read = Err Read
result_of ends.Write = Err Write
result_of ends.Memory = Err Memory

-- Connections were served in turn, one for each result, and the wires after those stayed as they were. A ledger that
-- meant this book, and to which the earlier deliveries had come, has then seen all of these.
abbrev pub AreServed : Book → List Delivery → List Wire → List Wire → List (Result EndCause ServeFault)
    → List Delivery → Type 0
AreServed b earlier olds news [] all = (all ≡ earlier) × (news ≡ olds)
AreServed b earlier [] news (result ∷ results) all = ⊥
AreServed b earlier (old ∷ olds) [] (result ∷ results) all = ⊥
AreServed b earlier (old ∷ olds) (new ∷ news) (result ∷ results) all =
    (came : List Delivery) × Serves (λ ds d. answer_to b (earlier ++ ds) d) came old new result
    × AreServed b (earlier ++ came) olds news results all

-- The ledger's store failed at a connection, after others that were served in turn. It stands after theirs, the wires
-- after it stayed as they were, and the ledger that it found is the one that their deliveries had left.
pub record AreStopped (b : Book) (olds news : List Wire) (ends : List ConnectionEnd)
    (seen : List Delivery) : Type 0 where
  pub before : List Delivery
  pub came : List Delivery
  pub all : seen ≡ before ++ came
  pub theirs : List Wire
  pub behind : List Wire
  pub old : Wire
  pub new : Wire
  pub stands : length theirs ≡ length ends
  pub others : AreServed b [] olds (theirs ++ old ∷ behind) (map result_of ends) before
  pub left : news ≡ theirs ++ new ∷ behind
  pub found : Book
  pub zone : found.zone ≡ b.zone
  pub default : found.default ≡ b.default
  pub history : found.history ≡ history_after b before
  pub result : Result EndCause ServeFault
  pub failed : result ≡ Err Store
  pub last : Serves (answer_to found) came old new result

-- the calls of `apply` that they all made, each with its answer
abbrev pub calls_until : {b : Book} {olds news : List Wire} {ends : List ConnectionEnd} {seen : List Delivery}
    → AreStopped b olds news ends seen → List ReportedCall
calls_until {b = b} s = calls (answer_to b) s.before ++ calls_of s.last

-- How the devices of connections that ended so stand, by whether a call of them has failed and whether what was written
-- was handed on. A source has failed where its connection ended by a failed read, and where all worked at the start
-- nowhere else; so the sinks by a failed write, and what was written is handed on at each other end.
pub record DevicesAgree {I O : Type 0} (source_failed : I → Bool) (sink_failed : O → Bool)
    (has_flushed : O → Option Bool) (inputs inputs' : List I) (outputs outputs' : List O)
    (ends : List (Result EndCause ServeFault)) : Type 0 where
  pub read : AllZip (λ end input. end ≡ Err Read → source_failed input ≡ true) ends (take (length ends) inputs')
  pub write : AllZip (λ end output. end ≡ Err Write → sink_failed output ≡ true) ends (take (length ends) outputs')
  pub source_works : All (λ input. source_failed input ≡ false) inputs →
      AllZip (λ end input. end ≢ Err Read → source_failed input ≡ false) ends (take (length ends) inputs')
  pub sink_works : All (λ output. sink_failed output ≡ false) outputs →
      AllZip (λ end output. end ≢ Err Write → sink_failed output ≡ false) ends (take (length ends) outputs')
  pub flushed : All (λ output. IsFlushed (has_flushed output)) outputs →
      AllZip (λ end output. end ≢ Err Write → IsFlushed (has_flushed output)) ends (take (length ends) outputs')

-- Each of these inputs was served whole, in turn: with this text, and so it ended. A ledger that meant this book, and
-- to which the earlier deliveries had come, has then seen all of these.
abbrev pub AreServedWhole : Book → List Delivery → List (List ℕ) → List (List ℕ) → List EndCause → List Delivery → Type 0
AreServedWhole b earlier [] [] [] all = all ≡ earlier
AreServedWhole b earlier (input ∷ inputs) (text ∷ texts) (e ∷ ends) all =
    (came : List Delivery) × IsServed input came e × (text ≡ served (λ ds d. answer_to b (earlier ++ ds) d) came e)
    × AreServedWhole b (earlier ++ came) inputs texts ends all
AreServedWhole b earlier _ _ _ all = ⊥

-- each of the known bytes grew by its text
abbrev pub AppendEach : List (Option (List ℕ)) → List Wire → List (List ℕ) → Type 0
AppendEach [] [] [] = Unit {0}
AppendEach (old ∷ olds) (new ∷ news) (text ∷ texts) = Appends old new.contents text × AppendEach olds news texts
AppendEach _ _ _ = ⊥
