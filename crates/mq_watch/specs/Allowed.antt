-- Which requests that come together may all be asked.
use Rattle.std.specs.Prelude.{Bool, true, false, ◌&&◌, List, [], ◌∷◌, Option, Some, None}
use Rattle.std.specs.Borrow.{Bor}
use Rattle.mq_request.specs.declared.message.Request.{Request}
use Rattle.mq_permits.specs.Permits.{allows}
use Rattle.mq_permits.specs.declared.peer.Peer.{Peer}
use Rattle.mq_permits.specs.declared.permits.Permits.{Permits}

-- each request is allowed to the peer at its place; one without a peer isn't
abbrev pub are_allowed : Permits → List Peer → List Request → Bool
are_allowed permits peers [] = true
are_allowed permits [] (request ∷ requests) = false
are_allowed permits (peer ∷ peers) (request ∷ requests) = allows permits peer request && are_allowed permits peers requests

-- the same where a server may have no permits: then each is
abbrev pub may_each_ask : Option (Bor Permits) → List Peer → List Request → Bool
may_each_ask None peers requests = true
may_each_ask (Some permits) peers requests = are_allowed permits.now peers requests
