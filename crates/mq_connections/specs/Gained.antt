-- What a ledger gained while it was served, and who may ask for it.
use Rattle.std.specs.Prelude.{◌≡◌, ℕ, List, ◌∷◌, ◌++◌, IsTrue, Option}
use Rattle.std.specs.Borrow.{Bor}
use Rattle.std.specs.List.{AllByRecursion}
use Rattle.mq_request.specs.declared.message.Request.{Request}
use Rattle.mq_ledger.specs.declared.entry.Entry.{Entry}
use Rattle.mq_permits.specs.Permits.{may_ask}
use Rattle.mq_permits.specs.declared.peer.Peer.{Peer}
use Rattle.mq_permits.specs.declared.permits.Permits.{Permits}
use Rattle.mq_connections.specs.Wires.{IsKnownAs}

-- A history has what it had before, and then what it gained: the request of each entry is such a one.
pub record Gains (Is : Request → Type 0) (old new : List Entry) : Type 0 where
  pub gained : List Entry
  pub is : new ≡ old ++ gained
  pub each : AllByRecursion (λ e. Is e.request) gained

-- this peer may ask for it
abbrev pub MayAsk : Option (Bor Permits) → Peer → Request → Type 0
MayAsk permits peer request = IsTrue (may_ask permits peer request)

-- Whose requests come over connections: their peers by number, where they are known, and what permits allow each.
pub record Callers : Type 0 where
  pub permits : Option (Bor Permits)
  pub peers : ℕ → Option Peer

abbrev pub callers : Option (Bor Permits) → (ℕ → Option Peer) → Callers
callers permits peers = record { permits = permits; peers = peers }

-- the peer of this connection may ask for it
abbrev pub MayCome : Callers → ℕ → Request → Type 0
MayCome who n request = (peer : Peer) × IsKnownAs (who.peers n) peer × MayAsk who.permits peer request

-- one of these
abbrev pub IsAmong : {A : Type 0} → List A → A → Type 0
IsAmong {A} xs x = (before : List A) × (after : List A) × (xs ≡ before ++ x ∷ after)
