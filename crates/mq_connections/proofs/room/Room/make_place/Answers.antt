use Rattle.mq_connections.specs.Sessions.{Outside, held}
use Rattle.mq_connections.proofs.Standing.{closes}
use Rattle.mq_connections.proofs.room.Room.make_place.Goals as goal

pub returns-clause-goes : goal.returns-clause-goes
returns-clause-goes g c = λ who old book told last failed start.
    let o : Outside = record { book = book; told = told; wires = g.N.Network.wire c.args.network.now } in
    closes old o (g.N.Network.wire c.close.new.network) _ last (held c.args.self.now.opened) (held c.close.new.self.opened) failed c.close.ensures.closes start

-- none had to be closed after all
pub returns-in_default-close-clause-goes : goal.returns-in_default-close-clause-goes
returns-in_default-close-clause-goes g c = λ who old book told last failed start.
    let o : Outside = record { book = book; told = told; wires = g.N.Network.wire c.args.network.now } in
    closes old o (g.N.Network.wire c.close.new.network) _ last (held c.args.self.now.opened) (held c.close.new.self.opened) failed c.close.ensures.closes start
