use Rattle.std.proofs.Common.{ℕ, Err, Result, sym, subst, subst₂}
use Rattle.sqlite.specs.Held.{state}
use Rattle.mq_connections.specs.Asking.{out}
use Rattle.mq_connections.specs.Gained.{callers}
use Rattle.mq_connections.specs.Wires.{Wire}
use Rattle.mq_store.specs.Soundness.{book_in, IsSound}
use Rattle.mq_program.specs.declared.fault.ProgramFault.{ProgramFault}
use Rattle.mq_program.specs.Nights.{AfterNights, Begun, HasPassed}
use Rattle.mq_program.proofs.NightSteps.{passed_still}
use Rattle.mq_program.proofs.ServingEnds.{other_fault}
use Rattle.mq_program.proofs.nights.begin_nights.Goals as goal

pub returns-in-Ok : goal.returns-in-Ok
returns-in-Ok g c = λ kept fresh sound k.
    let l = c.args.ledger in
    let m = c.prepare.new.ledger in
    let e = c.prepare.ensures in
    let wire = g.W.Network.wire in
    let before = state g.N.Store m.connection in
    let after = state g.N.Store c.pass_nights.result.ledger.connection in
    let wires = wire c.pass_nights.new.network in
    let outcome = c.pass_nights.result.outcome in
    let kept_then = c.pass_nights.ensures.kept kept k in
    let has = c.pass_nights.ensures.nights kept fresh (e.sound kept_then sound) k in
    subst (λ (w : ℕ → Wire). HasPassed (callers c.args.nights.now.permits g.W.Network.peers) g.R.Moments.shows c.args.nights.now.keep l.zone l.default (out (book_in l.zone l.default (state g.N.Store l.connection).now) w) after wires outcome) e.wires
    (subst (λ db. HasPassed (callers c.args.nights.now.permits g.W.Network.peers) g.R.Moments.shows c.args.nights.now.keep l.zone l.default (out (book_in l.zone l.default db) (wire c.prepare.new.network)) after wires outcome) (e.same kept_then)
    (subst₂ (λ z d. HasPassed (callers c.args.nights.now.permits g.W.Network.peers) g.R.Moments.shows c.args.nights.now.keep z d (out (book_in z d before.now) (wire c.prepare.new.network)) after wires outcome) e.lent.0 e.lent.1 has))

-- nothing was served
pub returns-in-Err : goal.returns-in-Err
returns-in-Err g c = λ _ _ sound k.
    let l = c.args.ledger in
    let m = c.prepare.new.ledger in
    let e = c.prepare.ensures in
    let now = state g.N.Store m.connection in
    let wires = g.W.Network.wire c.args.network.now in
    let start = out (book_in l.zone l.default (state g.N.Store l.connection).now) wires in
    let outcome : Result ℕ ProgramFault = Err c.in-Err.fault in
    subst (λ (w : ℕ → Wire). HasPassed (callers c.args.nights.now.permits g.W.Network.peers) g.R.Moments.shows c.args.nights.now.keep l.zone l.default start now w outcome) (sym e.wires)
    (passed_still l.zone l.default start now wires outcome (other_fault _ c.in-Err.ensures.fault) (c.nothing_is_served.ensures _) (
      subst₂ (λ z d. IsSound z d now) e.lent.0 e.lent.1 (e.sound k sound),
      subst (λ db. AfterNights (callers c.args.nights.now.permits g.W.Network.peers) g.R.Moments.shows c.args.nights.now.keep (out (book_in l.zone l.default db) wires) (out (book_in l.zone l.default now.now) wires)) (e.same k) Begun,
    ))
