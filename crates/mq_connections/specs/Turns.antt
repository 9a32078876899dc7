-- What a turn of a connection does to it, to its wire and to the ledger, and what its closing does.
use Rattle.std.specs.Prelude.{◌≡◌, ◌≢◌, ◌⊎◌, ℕ, ◌≤◌, List, [], ◌++◌, length, true, Option, None, Some, Err}
use Rattle.std.specs.Io.KnownBytes.{Appends, Consumes}
use Rattle.mq_ledger.specs.declared.entry.Entry.{Entry}
use Rattle.mq_ledger.specs.declared.ledger.ReportedCall.{ReportedCall}
use Rattle.mq_ledger.specs.Legal.{Book}
use Rattle.mq_server.specs.declared.connection.Progress.{Progress}
use Rattle.mq_server.specs.declared.connection.Progress.TheVariants.{Ended}
use Rattle.mq_server.specs.declared.fault.ServeFault.TheVariants.{Memory}
use Rattle.mq_server.specs.declared.input.TheConstants.{PIECE}
use Rattle.mq_server.specs.Held.{State}
use Rattle.mq_server.specs.Life.{AreAnswered, Exchange, Life, Lives, MakesCalls, StandsNext, with_taken}
use Rattle.mq_connections.specs.Wires.{AreOffered, IsKnownAs, Wire}

-- a life with more bytes in, more exchanges, and more bytes out
abbrev pub lived : Life → List ℕ → List Exchange → List ℕ → List ℕ → Life
lived l read xs rest written =
    record { bytes = l.bytes ++ read; exchanges = l.exchanges ++ xs; rest = rest; taken = l.taken ++ written }

-- a connection's input is taken for ended only where it was before, or where these bytes are all that its wire still had
abbrev pub ClosesAtEnd : State → State → Option (List ℕ) → List ℕ → Type 0
ClosesAtEnd c now remaining read = now.is_closed ≡ true → (c.is_closed ≡ true) ⊎ IsKnownAs remaining read

-- Bytes were read from the wire, and those of one read that found no room are lost; requests were answered by the ledger,
-- which then has this history and reports their calls, and nothing else came to it; and bytes of replies were written.
-- Each life of the connection goes on by them, and the request at which the store failed stands next in it.
pub record Turns (b : Book) (history : List Entry) (before after : Option (List ReportedCall)) (turn : Progress)
    (old new : Wire) (c now : State) : Type 0 where
  pub exchanges : List Exchange
  pub answered : AreAnswered b exchanges history
  pub calls : MakesCalls c.end turn before after exchanges
  pub read : List ℕ
  pub lost : List ℕ
  pub few : length lost ≤ PIECE
  pub whole : turn ≢ Ended (Err Memory) → lost ≡ []
  pub written : List ℕ
  pub consumed : Consumes old.remaining new.remaining (read ++ lost)
  pub sent : Appends old.contents new.contents written
  pub closed : ClosesAtEnd c now old.remaining read
  pub lives : (l : Life) → Lives l c → (rest : List ℕ) × Lives (lived l read exchanges rest written) now
      × StandsNext calls.failed rest

-- The replies that a connection holds were offered to its peer: some were written, and those that it still holds are what
-- the peer left. Nothing was read, and its end and its input's are as before.
pub record Offers (c : State) (old new : Wire) : Type 0 where
  pub now : State
  pub end : now.end ≡ c.end
  pub closed : now.is_closed ≡ c.is_closed
  pub written : List ℕ
  pub remaining : new.remaining ≡ old.remaining
  pub sent : Appends old.contents new.contents written
  pub lives : (l : Life) → Lives l c → Lives (with_taken l written) now
  pub offered : AreOffered now new

-- The connection under this number is no longer held, after its replies were offered. Nothing changed of the others.
pub record Closes (was now : ℕ → Option State) (old new : ℕ → Wire) (number : ℕ) : Type 0 where
  pub gone : now number ≡ None
  pub others : (n : ℕ) → n ≢ number → (now n ≡ was n) × (new n ≡ old n)
  pub absent : was number ≡ None → new number ≡ old number
  pub offers : (c : State) → was number ≡ Some c → Offers c (old number) (new number)
