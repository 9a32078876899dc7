use Rattle.std.proofs.Common.{refl}
use Rattle.mq_connections.specs.Sessions.{Outside, held}
use Rattle.mq_connections.proofs.Standing.{closes, rewired}
use Rattle.mq_connections.proofs.room.Room.watch_again.Goals as goal

pub returns-in_default-clause-goes : goal.returns-in_default-clause-goes
returns-in_default-clause-goes g c = λ who old book told last failed start.
    let o : Outside = record { book = book; told = told; wires = g.N.Network.wire c.args.network.now } in
    let here = held c.args.self.now.opened in
    rewired old o (g.N.Network.wire c.watch_again.new.self) last here here failed c.watch_again.ensures.same (λ n. refl) start

pub returns-clause-goes : goal.returns-clause-goes
returns-clause-goes g c = λ who old book told last failed start.
    let o : Outside = record { book = book; told = told; wires = g.N.Network.wire c.args.network.now } in
    let mid : Outside = record { book = book; told = told; wires = g.N.Network.wire c.watch_again.new.self } in
    let here = held c.args.self.now.opened in
    closes old mid (g.N.Network.wire c.close.new.network) c.args.number last here (held c.close.new.self.opened) failed c.close.ensures.closes
    (rewired old o mid.wires last here here failed c.watch_again.ensures.same (λ n. refl) start)
