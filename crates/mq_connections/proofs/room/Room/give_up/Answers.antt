use Rattle.std.proofs.Common.{◌≡◌, ◌≤◌, None, length, refl, rules}
use Rattle.mq_server.specs.declared.input.TheConstants.{PIECE}
use Rattle.mq_connections.specs.Sessions.{Outside, held}
use Rattle.mq_connections.proofs.Maps.{held_beside, held_here, held_now, same_held}
use Rattle.mq_connections.proofs.Standing.{read_after, rewired}
use Rattle.mq_connections.proofs.room.Room.give_up.Goals as goal

pub returns-in_default-clause-goes : goal.returns-in_default-clause-goes
returns-in_default-clause-goes g c = λ who old book told last failed start.
    let o : Outside = record { book = book; told = told; wires = g.N.Network.wire c.args.network.now } in
    let same : c.remove.new.self.entries ≡ c.args.self.now.opened.entries = search rules in
    rewired old o o.wires last (held c.args.self.now.opened) (held c.remove.new.self) failed (λ n. refl) (same_held c.args.self.now.opened c.remove.new.self same) start

pub returns-clause-goes : goal.returns-clause-goes
returns-clause-goes g c = λ who old book told last failed start.
    let was = c.args.self.now.opened in
    let now = c.remove.new.self in
    let number = c.args.number in
    let wire = g.N.Network.wire in
    let o : Outside = record { book = book; told = told; wires = wire c.args.network.now } in
    let one = c.in-Some.late in
    let small : length c.read.new.piece ≤ PIECE = search rules in
    read_after old o (wire c.offer.new.network) (wire c.read.new.self) (wire c.close.new.self) number last one.connection (held was) (held now) failed c.read.result c.read.new.piece (held_here was number one c.in-Some.ensures.value) c.offer.ensures.offers c.offer.ensures.others
    small c.read.ensures.bytes c.read.ensures.contents c.read.ensures.left c.read.ensures.others c.close.ensures.same (held_now was now number None c.remove.ensures.updates) (held_beside was now number None c.remove.ensures.updates) start
