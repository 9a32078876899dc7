use Rattle.std.proofs.Common.{ℕ, subst, sym}
use Rattle.std.proofs.lemmas.Result.{err_from_is_err_and}
use Rattle.mq_connections.specs.declared.fault.RoomFault.TheVariants as faults
use Rattle.mq_connections.specs.Gained.{callers}
use Rattle.mq_connections.specs.Sessions.{EndsServing, Outside}
use Rattle.mq_connections.specs.Wires.{Wire}
use Rattle.mq_connections.proofs.Gaining.{gains_none, gains_so}
use Rattle.mq_connections.proofs.Places.{from_caller}
use Rattle.mq_connections.proofs.Standing.{has_grown, not_this, nothing_grown, nothing_served}
use Rattle.mq_connections.proofs.serving.serve_connections.Goals as goal

-- no serving begins, and the wires are as before
pub returns-in_err-begin-clause-serves : goal.returns-in_err-begin-clause-serves
returns-in_err-begin-clause-serves g c = λ k s.
    let o : Outside = record { book = g.L.Ledger.book c.args.ledger.now; told = g.L.Ledger.told c.args.ledger.now; wires = g.N.Network.wire c.args.network.now } in
    let r = c.from_residual.result in
    let p = err_from_is_err_and r c.from_residual.ensures.1 in
    subst (λ (w : ℕ → Wire). EndsServing (callers c.args.permits g.N.Network.peers) o (record { book = o.book; told = o.told; wires = w }) faults.Store r) (sym c.in_err-begin.ensures.same)
    (nothing_served o faults.Store r c.a_life_is_served.ensures.begins (c.more_exchanges.ensures.none o.book (g.met.L.Ledger.sound_is_legal c.args.ledger.now s)) (not_this r p.0 _ p.1 p.2 c.in_err-begin.ensures.fault))

pub returns-in_err-begin-clause-history : goal.returns-in_err-begin-clause-history
returns-in_err-begin-clause-history g c = λ k s.
    let o : Outside = record { book = g.L.Ledger.book c.args.ledger.now; told = g.L.Ledger.told c.args.ledger.now; wires = g.N.Network.wire c.args.network.now } in
    nothing_grown o (c.more_exchanges.ensures.none o.book (g.met.L.Ledger.sound_is_legal c.args.ledger.now s))

-- the serving began over the wires as they were
pub returns-clause-serves : goal.returns-clause-serves
returns-clause-serves g c = λ k s.
    let old = c.args.ledger.now in
    let e = c.serve_network-outcome in
    let after : Outside = record { book = g.L.Ledger.book e.new.ledger; told = g.L.Ledger.told e.new.ledger; wires = g.N.Network.wire e.new.network } in
    subst (λ (w : ℕ → Wire). EndsServing (callers c.args.permits g.N.Network.peers) (record { book = g.L.Ledger.book old; told = g.L.Ledger.told old; wires = w }) after faults.Store e.result) c.in_ok-begin.ensures.same (e.ensures.serves k s)

pub returns-clause-history : goal.returns-clause-history
returns-clause-history g c = λ k s.
    let old = c.args.ledger.now in
    let e = c.serve_network-outcome in
    let before : Outside = record { book = g.L.Ledger.book old; told = g.L.Ledger.told old; wires = g.N.Network.wire c.begin.new.self } in
    let after : Outside = record { book = g.L.Ledger.book e.new.ledger; told = g.L.Ledger.told e.new.ledger; wires = g.N.Network.wire e.new.network } in
    has_grown before after faults.Store e.result (e.ensures.serves k s)

pub returns-in_err-begin-clause-gains : goal.returns-in_err-begin-clause-gains
returns-in_err-begin-clause-gains g c = λ k s. gains_none _

-- what came from a peer that may ask it came from its place
pub returns-clause-gains : goal.returns-clause-gains
returns-clause-gains g c = λ k s.
    let served = (c.serve_network-outcome.ensures.serves k s).served in
    gains_so (from_caller c.args.permits g.N.Network.peers served.placed) _ _ served.gains
