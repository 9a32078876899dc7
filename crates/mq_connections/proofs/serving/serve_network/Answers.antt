use Rattle.std.proofs.lemmas.Result.{err_from_is_err_and}
use Rattle.mq_connections.specs.declared.fault.RoomFault.TheVariants as faults
use Rattle.mq_connections.specs.Sessions.{Outside, held}
use Rattle.mq_connections.proofs.Standing.{begins, ends_so, goes_last, not_memory, nothing_served}
use Rattle.std.proofs.Common.{None}
use Rattle.mq_connections.proofs.serving.serve_network.Goals as goal

-- memory was refused before the first connection
pub returns-in_err-ready-clause-serves : goal.returns-in_err-ready-clause-serves
returns-in_err-ready-clause-serves g c = λ k s.
    let o : Outside = record { book = g.L.Ledger.book c.args.ledger.now; told = g.L.Ledger.told c.args.ledger.now; wires = g.N.Network.wire c.args.network.now } in
    let r = c.from_residual.result in
    let p = err_from_is_err_and r c.from_residual.ensures.1 in
    nothing_served o faults.Store r c.a_life_is_served.ensures.begins (c.more_exchanges.ensures.none o.book (g.met.L.Ledger.sound_is_legal c.args.ledger.now s)) (not_memory r p.0 p.1 p.2)

pub returns-clause-serves : goal.returns-clause-serves
returns-clause-serves g c = λ k s.
    let wire = g.N.Network.wire in
    let start : Outside = record { book = g.L.Ledger.book c.args.ledger.now; told = g.L.Ledger.told c.args.ledger.now; wires = wire c.args.network.now } in
    let stopped : Outside = record { book = g.L.Ledger.book c.serve_rounds-ended.new.ledger; told = g.L.Ledger.told c.serve_rounds-ended.new.ledger; wires = wire c.serve_rounds-ended.new.network } in
    let now : Outside = record { book = stopped.book; told = stopped.told; wires = wire c.close_all.new.network } in
    let room = c.new-room.result in
    let one = c.serve_rounds-ended.new.room in
    let still = held c.close_all.new.self.opened in
    let begun = goes_last start start c.last.result room.last (held room.opened) None c.new-room.ensures.last
    (begins start c.last.result (held room.opened) c.a_life_is_served.ensures.begins (c.more_exchanges.ensures.none start.book (g.met.L.Ledger.sound_is_legal c.args.ledger.now s)) c.new-room.ensures.none) in
    ends_so start stopped now one.last (held one.opened) still faults.Store c.serve_rounds-ended.result c.close_all.ensures.none (λ failed goes. c.close_all.ensures.goes _ start stopped.book stopped.told one.last failed goes) (c.serve_rounds-ended.ensures.goes k s start begun)
