use Rattle.std.proofs.Common.{None, refl}
use Rattle.mq_connections.specs.Sessions.{Outside, held}
use Rattle.mq_connections.proofs.Standing.{goes_last, rewired}
use Rattle.mq_connections.proofs.room.Room.accept.Goals as goal

pub loop-connection-preserved : goal.loop-connection-preserved
loop-connection-preserved g c = λ who old book told start.
    let wire = g.N.Network.wire in
    let o : Outside = record { book = book; told = told; wires = wire c.loop-connection.network } in
    let now : Outside = record { book = book; told = told; wires = wire c.add.new.network } in
    let room = c.loop-connection.self in
    let here = held room.opened in
    goes_last old now c.in-Some.number c.add.new.self.last (held c.add.new.self.opened) None c.add.ensures.last
    (c.add.ensures.goes who old book told room.last c.in-Some.ensures.1 (rewired old o (wire c.accept.new.self) room.last here here None c.accept.ensures.same (λ n. refl) (c.loop-connection.invariant who old book told start)))

pub returns-in_err-peer-clause-goes : goal.returns-in_err-peer-clause-goes
returns-in_err-peer-clause-goes g c = λ who old book told start.
    let o : Outside = record { book = book; told = told; wires = g.N.Network.wire c.loop-connection.network } in
    let here = held c.loop-connection.self.opened in
    rewired old o (g.N.Network.wire c.accept.new.self) c.loop-connection.self.last here here None c.accept.ensures.same (λ n. refl) (c.loop-connection.invariant who old book told start)

pub returns-in_default-2-clause-goes : goal.returns-in_default-2-clause-goes
returns-in_default-2-clause-goes g c = λ who old book told start.
    let o : Outside = record { book = book; told = told; wires = g.N.Network.wire c.loop-connection.network } in
    let here = held c.loop-connection.self.opened in
    rewired old o (g.N.Network.wire c.accept.new.self) c.loop-connection.self.last here here None c.accept.ensures.same (λ n. refl) (c.loop-connection.invariant who old book told start)
