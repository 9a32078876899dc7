-- Requests that stand next on open connections, and are taken together.
use Rattle.std.specs.Prelude.{◌≡◌, ℕ, List, [], ◌∷◌, ◌++◌, ◌≢◌, All, false, nat_eq, Option, Some, None, Err, ⊤}
use Rattle.std.specs.List.{list_any}
use Rattle.mq_request.specs.declared.message.Request.{Request}
use Rattle.mq_request.specs.declared.message.Reply.{Reply}
use Rattle.mq_request.specs.Range.{IsRequest}
use Rattle.mq_ledger.specs.Answer.{history_of, replies_after}
use Rattle.mq_ledger.specs.Day.{day_of}
use Rattle.mq_ledger.specs.History.{requests}
use Rattle.mq_ledger.specs.Legal.{Book, IsLegalBook}
use Rattle.mq_ledger.specs.declared.ledger.ReportedCall.{ReportedCall}
use Rattle.mq_server.specs.declared.fault.ServeFault.TheVariants.{Store}
use Rattle.mq_server.specs.Held.{State}
use Rattle.mq_server.specs.Life.{Life, Lives, StandsNext, taken, with_exchanges}
use Rattle.mq_permits.specs.declared.peer.Peer.{Peer}
use Rattle.mq_connections.specs.Gained.{Callers, MayCome}
use Rattle.mq_connections.specs.Sessions.{GoesOn, Outside}
use Rattle.mq_connections.specs.Wires.{IsKnownAs, Wire}

-- a request stands next on this connection, which is open and hasn't ended
pub record StandsOn (connections : ℕ → Option State) (n : ℕ) (r : Request) : Type 0 where
  pub state : State
  pub is_open : connections n ≡ Some state
  pub going : state.end ≡ None
  pub stands : StandsNext (Some r) state.rest

-- each of these requests stands next on the connection of that number, and no number comes twice
abbrev pub StandEach : (ℕ → Option State) → List ℕ → List Request → Type 0
StandEach connections [] [] = ⊤
StandEach connections (n ∷ ns) (r ∷ rs) =
    StandsOn connections n r × (list_any (λ m. nat_eq m n) ns ≡ false) × StandEach connections ns rs
StandEach connections [] (r ∷ rs) = ⊥
StandEach connections (n ∷ ns) [] = ⊥

-- the book of a ledger that takes these requests besides
abbrev pub book_with : Book → List Request → Book
book_with b rs = record {
  zone = b.zone;
  default = b.default;
  history = history_of (day_of b.zone) b.default (requests b.history ++ rs);
}

-- a connection goes on by the request that stands next on it and this reply
abbrev pub GoesOnBy : State → State → Reply → Type 0
GoesOnBy c now a =
    (request : Request) → StandsNext (Some request) c.rest
    → (l : Life) → Lives l c → (rest : List ℕ) × Lives (with_exchanges l (taken request a ∷ []) rest) now

-- a connection that was open and hadn't ended is open still, and goes on so
abbrev pub Gives : Option State → Option State → Reply → Type 0
Gives was now a =
    (c : State) → was ≡ Some c → c.end ≡ None
    → (d : State) × (now ≡ Some d) × (d.is_closed ≡ c.is_closed) × (d.end ≢ Some (Err Store)) × GoesOnBy c d a

-- the peer of each of these connections may ask for the request at its place
abbrev pub MayEachCome : Callers → List ℕ → List Request → Type 0
MayEachCome who [] [] = ⊤
MayEachCome who (n ∷ ns) (r ∷ rs) = MayCome who n r × MayEachCome who ns rs
MayEachCome who [] (r ∷ rs) = ⊥
MayEachCome who (n ∷ ns) [] = ⊥

-- a ledger of this book, which reports no calls, and the wires
abbrev pub out : Book → (ℕ → Wire) → Outside
out b wires = record { book = b; told = None; wires = wires }

-- What is left of requests that were taken together: these stand next on these connections, and their replies are the
-- ledger's, over the history of the sessions so far. With them the book is that one.
pub record Left (who : Callers) (old : Outside) (wires : ℕ → Wire) (last : ℕ) (connections : ℕ → Option State)
    (ns : List ℕ) (said : List Reply) (end : Book) : Type 0 where
  pub book : Book
  pub arrivals : List Request
  pub legal : IsLegalBook book
  pub ranged : All IsRequest arrivals
  pub stand : StandEach connections ns arrivals
  pub may : MayEachCome who ns arrivals
  pub replies : said ≡ replies_after (day_of book.zone) book.default (requests book.history) arrivals
  pub goes : GoesOn who old (out book wires) last connections None
  pub ends : book_with book arrivals ≡ end

-- they stand so, and are in range
abbrev pub AreAsked : (ℕ → Option State) → List ℕ → List Request → Type 0
AreAsked connections ns rs = StandEach connections ns rs × All IsRequest rs

-- these are the peers of the connections of these numbers, in their order, where they are known
abbrev pub ArePeers : (ℕ → Option Peer) → List ℕ → List Peer → Type 0
ArePeers peers [] [] = ⊤
ArePeers peers (n ∷ ns) (p ∷ ps) = IsKnownAs (peers n) p × ArePeers peers ns ps
ArePeers peers [] (p ∷ ps) = ⊥
ArePeers peers (n ∷ ns) [] = ⊥

-- whatever was served, by a ledger of any legal book, a server that held those connections over those wires goes on with
-- these over these
abbrev pub KeepsServing : (ℕ → Option State) → (ℕ → Wire) → ℕ → (ℕ → Option State) → (ℕ → Wire) → ℕ → Type 0
KeepsServing was wires last now wires' last' =
    (who : Callers) (old : Outside) (book : Book) (told : Option (List ReportedCall)) → IsLegalBook book →
    GoesOn who old (record { book = book; told = told; wires = wires }) last was None →
    GoesOn who old (record { book = book; told = told; wires = wires' }) last' now None
