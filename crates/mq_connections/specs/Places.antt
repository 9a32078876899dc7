-- From which addresses requests come that permits allow.
use Rattle.std.specs.Prelude.{◌≡◌, ◌⊎◌, ℕ, List, Option, None, Some, true, ⊤}
use Rattle.std.specs.Borrow.{Bor}
use Rattle.mq_request.specs.declared.message.Request.{Request}
use Rattle.mq_request.specs.declared.message.Request.TheVariants.{Reserve, Settle, Release, Limit, Usage, List as ListRequest, Retire}
use Rattle.mq_permits.specs.Hosts.{origins_in}
use Rattle.mq_permits.specs.Permits.{is_from}
use Rattle.mq_permits.specs.declared.peer.Peer.{Peer}
use Rattle.mq_permits.specs.declared.permits.Origin.{Origin}
use Rattle.mq_permits.specs.declared.permits.Permits.{Permits}
use Rattle.mq_connections.specs.Gained.{IsAmong}
use Rattle.mq_connections.specs.Wires.{IsKnownAs}

-- the peer asks from one of these
abbrev pub IsFromOneOf : List Origin → Peer → Type 0
IsFromOneOf origins peer = (origin : Origin) × IsAmong origins origin × (is_from peer origin ≡ true)

-- a reserve, a settle and a release come from an address of their host, a retire from there or from an administrator's, and a
-- limit from an administrator's
abbrev pub IsFromItsPlace : Permits → Request → Peer → Type 0
IsFromItsPlace permits (Reserve id txn moment login count) peer = IsFromOneOf (origins_in permits.hosts id.host) peer
IsFromItsPlace permits (Settle id txn moment login count) peer = IsFromOneOf (origins_in permits.hosts id.host) peer
IsFromItsPlace permits (Release id txn moment login) peer = IsFromOneOf (origins_in permits.hosts id.host) peer
IsFromItsPlace permits (Retire id) peer =
    IsFromOneOf (origins_in permits.hosts id.host) peer ⊎ IsFromOneOf permits.admin.items peer
IsFromItsPlace permits (Limit id from_day cap login) peer = IsFromOneOf permits.admin.items peer
IsFromItsPlace permits (Usage login day) peer = ⊤
IsFromItsPlace permits (ListRequest day after) peer = ⊤

-- the same over one of these connections, where there are permits
abbrev pub CameFromItsPlace : Option (Bor Permits) → (ℕ → Option Peer) → Request → Type 0
CameFromItsPlace None peers request = ⊤
CameFromItsPlace (Some permits) peers request =
    (n : ℕ) × (peer : Peer) × IsKnownAs (peers n) peer × IsFromItsPlace permits.now request peer
