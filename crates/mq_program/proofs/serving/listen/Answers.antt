use Rattle.std.proofs.Common.{ℕ, Err, Ok, ap, refl, subst, sym}
use Rattle.std.proofs.lemmas.Result.{err_from_is_err_and}
use Rattle.mq_connections.specs.Gained.{callers}
use Rattle.mq_connections.specs.Sessions.{EndsServing, Outside}
use Rattle.mq_connections.specs.Wires.{Wire}
use Rattle.mq_connections.specs.declared.fault.RoomFault.TheVariants.{Store}
use Rattle.mq_program.specs.declared.fault.ProgramFault.TheVariants.{Serve}
use Rattle.mq_program.proofs.ServingEnds.{ends_faulty, ends_unheard, ends_well}
use Rattle.mq_program.proofs.serving.listen.Goals as goal

-- the port can't be had
pub returns-in-Err-clause-serves : goal.returns-in-Err-clause-serves
returns-in-Err-clause-serves g c = λ k s.
    let q = Err c.in-Err.fault in
    let o : Outside = record { book = g.L.Ledger.book c.args.ledger.now; told = g.L.Ledger.told c.args.ledger.now; wires = g.W.Network.wire c.args.network.now } in
    subst (λ (w : ℕ → Wire). EndsServing (callers c.args.permits g.W.Network.peers) o (record { book = o.book; told = o.told; wires = w }) (Serve Store) q) (sym c.bind.ensures.same)
    (ends_unheard o q (ap Err c.in-Err.ensures.fault) (c.nothing_is_served.ensures _ o (g.met.L.Ledger.sound_is_legal c.args.ledger.now s)))

-- the serving ended by a fault
pub returns-in_err-_ended-clause-serves : goal.returns-in_err-_ended-clause-serves
returns-in_err-_ended-clause-serves g c = λ k s.
    let ledger = c.args.ledger.now in
    let wire = g.W.Network.wire in
    let before : Outside = record { book = g.L.Ledger.book ledger; told = g.L.Ledger.told ledger; wires = wire c.bind.new.network } in
    let after : Outside = record { book = g.L.Ledger.book c.serve_connections.new.ledger; told = g.L.Ledger.told c.serve_connections.new.ledger; wires = wire c.serve_connections.new.network } in
    let q = c.from_residual.result in
    let p = err_from_is_err_and q c.from_residual.ensures.1 in
    let cause = c.in_err-_ended.field-0.0 in
    subst (λ (w : ℕ → Wire). EndsServing (callers c.args.permits g.W.Network.peers) (record { book = before.book; told = before.told; wires = w }) after (Serve Store) q) c.bind.ensures.same
    (ends_faulty before after (Err cause) q cause p.0 refl p.1 p.2 (c.in_err-_ended.ensures.serves k s))

-- or well
pub returns-clause-serves : goal.returns-clause-serves
returns-clause-serves g c = λ k s.
    let ledger = c.args.ledger.now in
    let wire = g.W.Network.wire in
    let before : Outside = record { book = g.L.Ledger.book ledger; told = g.L.Ledger.told ledger; wires = wire c.bind.new.network } in
    let after : Outside = record { book = g.L.Ledger.book c.serve_connections.new.ledger; told = g.L.Ledger.told c.serve_connections.new.ledger; wires = wire c.serve_connections.new.network } in
    subst (λ (w : ℕ → Wire). EndsServing {A = ℕ} (callers c.args.permits g.W.Network.peers) (record { book = before.book; told = before.told; wires = w }) after (Serve Store) (Ok 0)) c.bind.ensures.same
    (ends_well before after (Ok c.in_ok-_ended._ended) c.in_ok-_ended._ended 0 refl (c.in_ok-_ended.ensures.serves k s))
