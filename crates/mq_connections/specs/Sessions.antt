-- All connections of a server together: which requests came on which, and what each was answered.
use Rattle.std.specs.Prelude.{◌≡◌, ◌≢◌, ℕ, ◌<◌, ◌≤◌, List, [], ◌++◌, length, map, filter, eqb, true, Option, Some, None, IsSome, Result, Err, option_map}
use Rattle.std.specs.Option.{option_to_list}
use Rattle.std.specs.Ordering.{nat_cmp}
use Rattle.std.specs.BTreeMap.{BTreeMap, get}
use Rattle.std.specs.Io.KnownBytes.{Appends, Consumes}
use Rattle.mq_request.specs.declared.message.Request.{Request}
use Rattle.mq_ledger.specs.declared.ledger.ReportedCall.{ReportedCall}
use Rattle.mq_ledger.specs.Legal.{Book}
use Rattle.mq_lemmas.specs.Told.{Tells}
use Rattle.mq_server.specs.declared.fault.ServeFault.TheVariants.{Store}
use Rattle.mq_server.specs.declared.input.TheConstants.{PIECE}
use Rattle.mq_server.specs.Delivery.{asked, failed_call}
use Rattle.mq_server.specs.Held.{State}
use Rattle.mq_server.specs.Life.{AreAnswered, Exchange, Life, Lives, StandsNext, deliveries, told_of}
use Rattle.mq_connections.specs.declared.opened.OpenConnection.{OpenConnection}
use Rattle.mq_connections.specs.Gained.{Callers, Gains, IsAmong, MayCome}
use Rattle.mq_connections.specs.Wires.{AreOffered, IsKnownAs, Wire}

-- an exchange, and the number of the connection on which it came
pub record Placed : Type 0 where
  pub number : ℕ
  pub exchange : Exchange

-- the exchanges of all connections, and those of one, in the order in which the ledger took them
abbrev pub all_of : List Placed → List Exchange
all_of ps = map (λ p. p.exchange) ps

abbrev pub those_of : ℕ → List Placed → List Exchange
those_of n ps = all_of (filter (λ p. eqb p.number n) ps)

-- what a server stands between: a ledger's book and the calls that it reports, and the wires of the connections
pub record Outside : Type 0 where
  pub book : Book
  pub told : Option (List ReportedCall)
  pub wires : ℕ → Wire

-- A connection's life, whose exchanges are those of its number: its bytes in are what was read from the wire, but for the
-- last read, which may have found no room or come too late, and the bytes of replies that were taken are what was written
-- to it. Where its input is taken for ended, its bytes in are all that were to come on the wire.
pub record Session (n : ℕ) (ps : List Placed) (old new : Wire) : Type 0 where
  pub life : Life
  pub state : State
  pub lives : Lives life state
  pub placed : life.exchanges ≡ those_of n ps
  pub lost : List ℕ
  pub few : length lost ≤ PIECE
  pub consumed : Consumes old.remaining new.remaining (life.bytes ++ lost)
  pub closed : state.is_closed ≡ true → IsKnownAs old.remaining life.bytes
  pub sent : Appends old.contents new.contents life.taken

-- it came on one of these connections, and that one's peer may ask for it
abbrev pub CameFromCaller : Callers → List Placed → Request → Type 0
CameFromCaller who ps request = (n : ℕ) × MayCome who n request × IsAmong (asked (deliveries (those_of n ps))) request

-- Connections were served: each is a session, whose answers are the ledger's over what came to it before on any of them,
-- and nothing else came to it. What it gained came on these connections from peers that may ask for it. Where there is a
-- request at which the store failed, it is the last that was put to it.
pub record HaveServed (who : Callers) (old new : Outside) (failed : Option Request) : Type 0 where
  pub placed : List Placed
  pub zone : new.book.zone ≡ old.book.zone
  pub default : new.book.default ≡ old.book.default
  pub answered : AreAnswered old.book (all_of placed) new.book.history
  pub gains : Gains (CameFromCaller who placed) old.book.history new.book.history
  pub told : Tells old.told new.told (told_of (all_of placed) ++ map failed_call (option_to_list failed))
  pub each : (n : ℕ) → Session n placed (old.wires n) (new.wires n)

-- The serving ended so: by Store where the store failed, and only there, at the connection whose end that is, and on which
-- that request stands next. The replies that any connection still holds were offered to its peer, which left them.
pub record EndsServing {A E : Type 0} (who : Callers) (old new : Outside) (store : E) (result : Result A E) : Type 0 where
  pub failed : Option Request
  pub served : HaveServed who old new failed
  pub stops : IsSome failed → result ≡ Err store
  pub only : result ≡ Err store → IsSome failed
  pub at : IsSome failed → (n : ℕ) × ((served.each n).state.end ≡ Some (Err Store))
      × StandsNext failed (served.each n).life.rest
  pub offered : (n : ℕ) → AreOffered (served.each n).state (new.wires n)

-- what is held of the connection under a number, where it is open
abbrev pub held : BTreeMap ℕ OpenConnection → ℕ → Option State
held connections n = option_map (λ o. o.connection) (get nat_cmp connections n)

-- A server goes on: all that it read of the connections that are open is in their lives, and none of them has seen the
-- store fail; what a connection that is closed still holds was offered to its peer; and nothing came yet on those that it
-- will number. Where the store failed, it was at the request that stands next on one that is closed.
pub record GoesOn (who : Callers) (old new : Outside) (last : ℕ) (connections : ℕ → Option State)
    (failed : Option Request) : Type 0 where
  pub served : HaveServed who old new failed
  pub beyond : (n : ℕ) → last < n → (those_of n served.placed ≡ []) × (new.wires n ≡ old.wires n)
  pub are_held : (n : ℕ) (c : State) → connections n ≡ Some c →
      ((served.each n).state ≡ c) × ((served.each n).lost ≡ []) × (c.end ≢ Some (Err Store)) × (n ≤ last)
  pub offered : (n : ℕ) → connections n ≡ None → AreOffered (served.each n).state (new.wires n)
  pub at : IsSome failed → (n : ℕ) × ((served.each n).state.end ≡ Some (Err Store))
      × StandsNext failed (served.each n).life.rest

-- It goes on, or ends by Store where the store failed, and only there.
pub record GoesOnOrStops {A E : Type 0} (who : Callers) (old new : Outside) (last : ℕ)
    (connections : ℕ → Option State) (store : E) (result : Result A E) : Type 0 where
  pub failed : Option Request
  pub goes : GoesOn who old new last connections failed
  pub stops : IsSome failed → result ≡ Err store
  pub only : result ≡ Err store → IsSome failed

-- whatever was served, a server that held those connections over those wires goes on with these over these
abbrev pub KeepsGoing : (ℕ → Option State) → (ℕ → Wire) → (ℕ → Option State) → (ℕ → Wire) → Type 0
KeepsGoing was wires now wires' =
    (who : Callers) (old : Outside) (book : Book) (told : Option (List ReportedCall)) (last : ℕ) (failed : Option Request) →
    GoesOn who old (record { book = book; told = told; wires = wires }) last was failed →
    GoesOn who old (record { book = book; told = told; wires = wires' }) last now failed
