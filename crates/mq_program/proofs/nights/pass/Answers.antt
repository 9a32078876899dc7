use Rattle.sqlite.specs.Held.{state}
use Rattle.mq_server.specs.Delivery.{HasGrown}
use Rattle.mq_store.specs.Soundness.{book_in, HasKept, IsSound}
use Rattle.std.proofs.Common.{◌∙◌, Err, Result, refl, subst, subst₂, sym}
use Rattle.mq_store.specs.Forgetting.{IsRemembered}
use Rattle.mq_connections.specs.Asking.{out}
use Rattle.mq_connections.specs.Gained.{callers}
use Rattle.mq_nights.specs.Nights.{WasDue}
use Rattle.mq_program.specs.declared.fault.ProgramFault.{ProgramFault}
use Rattle.mq_program.specs.declared.fault.ProgramFault.TheVariants.{Serve}
use Rattle.mq_program.specs.Serving.{Serves}
use Rattle.mq_program.specs.Nights.{IsAsBefore}
use Rattle.mq_program.proofs.NightSteps.{both_some, next_one, remembered_on}
use Rattle.mq_program.proofs.ServingEnds.{ends_faulty, ends_good}
use Rattle.mq_program.proofs.nights.pass.Goals as goal

-- the ledger that comes out is the one that was served
pub returns-in-Ok-clause-grown : goal.returns-in-Ok-clause-grown
returns-in-Ok-clause-grown g c =
    let old = c.args.serving in
    subst (λ l. HasKept (state g.S.Store l.connection) → IsSound old.zone old.default (state g.S.Store old.connection)
    → HasGrown (book_in old.zone old.default (state g.S.Store old.connection).now) (book_in l.zone l.default (state g.S.Store l.connection).now))
    (sym c.end_night.ensures.former) c.pass_night.ensures.grown

pub returns-in-Err-clause-grown : goal.returns-in-Err-clause-grown
returns-in-Err-clause-grown g c =
    let old = c.args.serving in
    subst (λ l. HasKept (state g.S.Store l.connection) → IsSound old.zone old.default (state g.S.Store old.connection)
    → HasGrown (book_in old.zone old.default (state g.S.Store old.connection).now) (book_in l.zone l.default (state g.S.Store l.connection).now))
    (sym c.into_inner-ledger.ensures) c.pass_night.ensures.grown

-- and the next one is the renewed one, whose answers were counted
pub returns-in-Ok-clause-next_lent : goal.returns-in-Ok-clause-next_lent
returns-in-Ok-clause-next_lent g c k s =
    let served = subst (λ l. HasKept (state g.S.Store l.connection)) c.end_night.ensures.former k in
    next_one c.end_night.result.outcome c.in-Ok.night _ _ _ c.end_night.ensures.next (c.in-Ok.ensures.renewed_lent served s)
    (λ d n same lent. (same.0 ∙ lent.0, same.1 ∙ lent.1))

pub returns-in-Ok-clause-remembered : goal.returns-in-Ok-clause-remembered
returns-in-Ok-clause-remembered g c k s =
    let old = c.args.serving in
    let former = c.end_night.ensures.former in
    let served = subst (λ l. HasKept (state g.S.Store l.connection)) former k in
    next_one c.end_night.result.outcome c.in-Ok.night _ _ _ c.end_night.ensures.next
    (both_some c.in-Ok.night _ _ (c.in-Ok.ensures.renewed_lent served s) (c.in-Ok.ensures.remembered served s))
    (λ d n same has fresh kept.
    let still : IsAsBefore old.zone old.default (state g.N.Store n.ledger.connection) (state g.N.Store d.serving.connection) =
    subst₂ (λ z e. IsAsBefore z e (state g.N.Store n.ledger.connection) (state g.N.Store d.serving.connection)) has.0.0 has.0.1 same.2 in
    subst (λ day. IsRemembered old.zone old.default day (state g.S.Store c.end_night.result.ledger.connection).now (state g.N.Store d.serving.connection)) (sym same.3)
    (subst (λ l. IsRemembered old.zone old.default n.day (state g.S.Store l.connection).now (state g.N.Store d.serving.connection)) (sym former)
    (remembered_on old.zone old.default n.day _ (state g.N.Store n.ledger.connection) (state g.N.Store d.serving.connection) still kept (has.1 fresh (still.kept kept)))))

-- whose day was due
pub returns-in-Ok-clause-due : goal.returns-in-Ok-clause-due
returns-in-Ok-clause-due g c k s =
    let old = c.args.serving in
    let begun = book_in old.zone old.default (state g.S.Store old.connection).now in
    let l = c.end_night.result.ledger in
    let former = c.end_night.ensures.former in
    let served = subst (λ x. HasKept (state g.S.Store x.connection)) former k in
    next_one c.end_night.result.outcome c.in-Ok.night _ _ _ c.end_night.ensures.next (c.in-Ok.ensures.due served s)
    (λ d n same due.
    subst (λ day. WasDue g.R.Moments.shows c.args.nights.now.keep day begun (book_in l.zone l.default (state g.S.Store l.connection).now)) (sym same.3)
    (subst (λ x. WasDue g.R.Moments.shows c.args.nights.now.keep n.day begun (book_in x.zone x.default (state g.S.Store x.connection).now)) (sym former) due))

-- what was served, and how that ended
pub returns-in-Ok-clause-serves : goal.returns-in-Ok-clause-serves
returns-in-Ok-clause-serves g c =
    let old = c.args.serving in
    let outcome = c.end_night.result.outcome in
    let before = out (book_in old.zone old.default (state g.S.Store old.connection).now) (g.W.Network.wire c.args.network.now) in
    subst (λ l. HasKept (state g.S.Store l.connection) → IsSound old.zone old.default (state g.S.Store old.connection)
    → Serves (callers c.args.nights.now.permits g.W.Network.peers) before (out (book_in l.zone l.default (state g.S.Store l.connection).now) (g.W.Network.wire c.pass_night.new.network)) outcome)
    (sym c.end_night.ensures.former)
    (λ k s. ends_good before _ c.pass_night.result c.in-Ok.night outcome c.in-Ok.is c.end_night.ensures.good (c.pass_night.ensures.serves k s))

pub returns-in-Err-clause-serves : goal.returns-in-Err-clause-serves
returns-in-Err-clause-serves g c =
    let old = c.args.serving in
    let fault = c.in-Err.fault in
    let outcome : Result _ ProgramFault = Err (Serve fault) in
    let before = out (book_in old.zone old.default (state g.S.Store old.connection).now) (g.W.Network.wire c.args.network.now) in
    subst (λ l. HasKept (state g.S.Store l.connection) → IsSound old.zone old.default (state g.S.Store old.connection)
    → Serves (callers c.args.nights.now.permits g.W.Network.peers) before (out (book_in l.zone l.default (state g.S.Store l.connection).now) (g.W.Network.wire c.pass_night.new.network)) outcome)
    (sym c.into_inner-ledger.ensures)
    (λ k s. ends_faulty before _ c.pass_night.result outcome fault (Serve fault) c.in-Err.is refl refl (c.pass_night.ensures.serves k s))
