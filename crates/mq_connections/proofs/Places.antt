-- From where what permits allow comes.
use Rattle.std.proofs.Common.{◌≡◌, ℕ, List, [], ◌∷◌, refl, ap, Bool, true, false, IsTrue, Option, Some, None, inl, inr}
use Rattle.std.specs.Prelude.{◌||◌, ◌⊎◌}
use Rattle.std.specs.Borrow.{Bor}
use Rattle.mq_lemmas.proofs.Booleans.{false_true}
use Rattle.mq_request.specs.declared.message.Request.{Request}
use Rattle.mq_request.specs.declared.message.Request.TheVariants.{Reserve, Settle, Release, Limit, Usage, List as ListRequest, Retire}
use Rattle.mq_permits.specs.Hosts.{origins_in}
use Rattle.mq_permits.specs.Permits.{allows, are_from, is_from}
use Rattle.mq_permits.specs.declared.peer.Peer.{Peer}
use Rattle.mq_permits.specs.declared.permits.Origin.{Origin}
use Rattle.mq_permits.specs.declared.permits.Permits.{Permits}
use Rattle.mq_connections.specs.Gained.{callers}
use Rattle.mq_connections.specs.Sessions.{CameFromCaller, Placed}
use Rattle.mq_connections.specs.Places.{CameFromItsPlace, IsFromItsPlace, IsFromOneOf}

first_or_later : (peer : Peer) (o : Origin) (os : List Origin) (b : Bool) → is_from peer o ≡ b → IsTrue (b || are_from peer os) → (IsTrue (are_from peer os) → IsFromOneOf os peer) → IsFromOneOf (o ∷ os) peer
first_or_later peer o os true is holds later = (o, ([], os, refl), is)
first_or_later peer o os false is holds later = let m = later holds in (m.0, (o ∷ m.1.0, m.1.1, ap (λ (q : List Origin). o ∷ q) m.1.2), m.2)

one_of : (peer : Peer) (os : List Origin) → IsTrue (are_from peer os) → IsFromOneOf os peer
one_of peer [] holds = absurd (false_true holds)
one_of peer (o ∷ os) holds = first_or_later peer o os (is_from peer o) refl holds (one_of peer os)

one_or_other : (peer : Peer) (os qs : List Origin) (b : Bool) → are_from peer os ≡ b → IsTrue (b || are_from peer qs) → IsFromOneOf os peer ⊎ IsFromOneOf qs peer
one_or_other peer os qs true is holds = inl (one_of peer os is)
one_or_other peer os qs false is holds = inr (one_of peer qs holds)

from_its_place : (permits : Permits) (request : Request) (peer : Peer) → IsTrue (allows permits peer request) → IsFromItsPlace permits request peer
from_its_place permits (Reserve id txn moment login count) peer may = one_of peer (origins_in permits.hosts id.host) may
from_its_place permits (Settle id txn moment login count) peer may = one_of peer (origins_in permits.hosts id.host) may
from_its_place permits (Release id txn moment login) peer may = one_of peer (origins_in permits.hosts id.host) may
from_its_place permits (Retire id) peer may = one_or_other peer (origins_in permits.hosts id.host) permits.admin.items (are_from peer (origins_in permits.hosts id.host)) refl may
from_its_place permits (Limit id from_day cap login) peer may = one_of peer permits.admin.items may
from_its_place permits (Usage login day) peer may = tt
from_its_place permits (ListRequest day after) peer may = tt

-- what came from a caller came from its place
pub from_caller : (permits : Option (Bor Permits)) (peers : ℕ → Option Peer) (ps : List Placed) (r : Request) → CameFromCaller (callers permits peers) ps r → CameFromItsPlace permits peers r
from_caller None peers ps r came = tt
from_caller (Some permits) peers ps r came = let m = came.1 in (came.0, m.0, m.1, from_its_place permits.now r m.0 m.2)
