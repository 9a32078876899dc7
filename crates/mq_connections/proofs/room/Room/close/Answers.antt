use Rattle.std.proofs.Common.{◌≡◌, None, rules}
use Rattle.std.specs.BTreeMap.{get}
use Rattle.std.specs.Ordering.{nat_cmp}
use Rattle.mq_connections.proofs.Maps.{closes_none, closes_one}
use Rattle.mq_connections.proofs.room.Room.close.Goals as goal

-- no such connection is open
pub returns-in_default-clause-closes : goal.returns-in_default-clause-closes
returns-in_default-clause-closes g c =
    let was = c.args.self.now.opened in
    let now = c.remove.new.self in
    let none : None ≡ get nat_cmp was c.args.number = search rules in
    let same : now.entries ≡ was.entries = search rules in
    closes_none was now c.args.number (g.N.Network.wire c.args.network.now) none same

pub returns-clause-closes : goal.returns-clause-closes
returns-clause-closes g c = closes_one c.args.self.now.opened c.remove.new.self c.args.number c.in-Some.closed (g.N.Network.wire c.args.network.now) (g.N.Network.wire c.offer.new.network) (g.N.Network.wire c.close.new.self)
    c.in-Some.ensures.value c.remove.ensures.updates c.offer.ensures.others c.offer.ensures.offers c.close.ensures.same
