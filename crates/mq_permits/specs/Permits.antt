-- Which requests of a peer are put to the ledger.
use Rattle.std.specs.Prelude.{ℕ, Bool, true, false, ◌||◌, List, Option, Some, None}
use Rattle.std.specs.Borrow.{Bor}
use Rattle.std.specs.List.{list_any}
use Rattle.std.specs.Net.Socket.{socket_ip}
use Rattle.std.specs.declared.net.ip_addr.IpAddr.{IpAddr}
use Rattle.mq_request.specs.declared.message.Request.{Request}
use Rattle.mq_request.specs.declared.message.Request.TheVariants.{Reserve, Settle, Release, Limit, Usage, List as ListRequest, Retire}
use Rattle.mq_permits.specs.Hosts.{origins_in}
use Rattle.mq_permits.specs.Networks.{is_loopback, is_of, is_same_number, numbered}
use Rattle.mq_permits.specs.declared.network.AddressNumber.{AddressNumber}
use Rattle.mq_permits.specs.declared.peer.Peer.{Peer}
use Rattle.mq_permits.specs.declared.permits.Origin.{Origin}
use Rattle.mq_permits.specs.declared.permits.Origin.TheVariants as origin
use Rattle.mq_permits.specs.declared.permits.Permits.{Permits}

-- this machine is asked at the address of this number
abbrev pub is_here : Option IpAddr → AddressNumber → Bool
is_here (Some here) number = is_same_number (numbered here) number
is_here None number = false

-- this machine asks itself: from a loopback address, or from the very address that it is asked at
abbrev pub is_own : Peer → Bool
is_own peer = is_loopback (numbered (socket_ip peer.address)) || is_here peer.here (numbered (socket_ip peer.address))

-- the peer asks from there
abbrev pub is_from : Peer → Origin → Bool
is_from peer (origin.Network network) = is_of network (numbered (socket_ip peer.address))
is_from peer origin.ThisMachine = is_own peer

-- the peer asks from one of these
abbrev pub are_from : Peer → List Origin → Bool
are_from peer origins = list_any (is_from peer) origins

-- the peer asks from an address of this host
abbrev pub is_of_host : Permits → Peer → List ℕ → Bool
is_of_host permits peer host = are_from peer (origins_in permits.hosts host)

-- the peer may read what logins have used
abbrev pub may_read : Permits → Peer → Bool
may_read permits peer = is_own peer || (are_from peer permits.admin.items || are_from peer permits.report.items)

-- Which requests are put to the ledger: those of a transaction from an address of their host, a retire from there or from
-- an administrator's, a limit from an administrator's, and questions from this machine, an administrator's or a reader's.
abbrev pub allows : Permits → Peer → Request → Bool
allows permits peer (Reserve id txn moment login count) = is_of_host permits peer id.host
allows permits peer (Settle id txn moment login count) = is_of_host permits peer id.host
allows permits peer (Release id txn moment login) = is_of_host permits peer id.host
allows permits peer (Retire id) = is_of_host permits peer id.host || are_from peer permits.admin.items
allows permits peer (Limit id from_day cap login) = are_from peer permits.admin.items
allows permits peer (Usage login day) = may_read permits peer
allows permits peer (ListRequest day after) = may_read permits peer

-- the same where a server may have no permits: then each is
abbrev pub may_ask : Option (Bor Permits) → Peer → Request → Bool
may_ask None peer request = true
may_ask (Some permits) peer request = allows permits.now peer request
