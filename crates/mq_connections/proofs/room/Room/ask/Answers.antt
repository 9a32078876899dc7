use Rattle.std.proofs.Common.{Some, false, refl, rules, ◌≡◌, ℕ}
use Rattle.std.specs.Prelude.{nat_eq}
use Rattle.std.specs.BTreeMap.{get}
use Rattle.std.specs.List.{list_any}
use Rattle.std.specs.Ordering.{nat_cmp}
use Rattle.std.proofs.lemmas.List.Elements.{All-push}
use Rattle.mq_request.specs.Range.{IsRequest}
use Rattle.mq_connections.specs.Asking.{StandsOn}
use Rattle.mq_connections.specs.Sessions.{held}
use Rattle.mq_connections.proofs.Giving.{stand_more}
use Rattle.mq_connections.proofs.Gaining.{peers_more}
use Rattle.mq_connections.proofs.Maps.{held_here}
use Rattle.mq_connections.proofs.room.Room.ask.Goals as goal

pub returns-clause-asked : goal.returns-clause-asked
returns-clause-asked g c = λ asked.
    let was = c.args.self.now.opened in
    let number = c.args.number in
    let request = c.in-Some-peek_request.request in
    let found : Some c.in-Some-get.«open».now ≡ get nat_cmp was number = search rules in
    let none : list_any (λ (m : ℕ). nat_eq m number) c.args.asked.now.numbers.items ≡ false = search rules in
    let here : StandsOn (held was) number request = record {
      state = c.in-Some-get.«open».now.connection;
      is_open = held_here was number c.in-Some-get.«open».now found;
      going = c.in-Some-peek_request.ensures.going refl;
      stands = c.in-Some-peek_request.ensures.stands;
    } in
    rw (c.in_ok-push.ensures.numbers, c.in_ok-push.ensures.requests)
    (stand_more (held was) c.args.asked.now.numbers.items c.args.asked.now.requests.items number request none here asked.0, All-push IsRequest c.args.asked.now.requests.items request asked.1 c.in-Some-peek_request.ensures.in_range)

-- and whose it is
pub returns-clause-peers : goal.returns-clause-peers
returns-clause-peers g c = λ peers.
    rw (c.in_ok-push.ensures.numbers, c.in_ok-push.ensures.peers)
    (peers_more g.N.Network.peers c.args.asked.now.numbers.items c.args.asked.now.peers.items c.args.number c.in-Some.peer c.in-Some.ensures peers)
