use Rattle.std.proofs.Common.{◌≡◌, ℕ, Ok, Err, Result, refl, sym, subst}
use Rattle.sqlite.specs.Held.{state}
use Rattle.mq_store.specs.Soundness.{book_in, HasKept}
use Rattle.mq_connections.specs.Asking.{out}
use Rattle.mq_connections.specs.Gained.{callers}
use Rattle.mq_program.specs.declared.fault.ProgramFault.{ProgramFault}
use Rattle.mq_program.specs.Nights.{AreKept, HasDawned, HasPassed}
use Rattle.mq_program.proofs.NightSteps.{dawn_of, kept_before, one_night, passed_at_once, passed_still, stayed}
use Rattle.mq_program.proofs.ServingEnds.{ends_so, ends_well, no_store, served_well}
use Rattle.mq_program.proofs.nights.serve_to_dawn.Goals as goal

-- the former ledger was closed last
pub returns-in-Ok-clause-closed : goal.returns-in-Ok-clause-closed
returns-in-Ok-clause-closed g c = λ kept. subst (AreKept (λ x. HasKept (state g.N.Store x))) c.begin.ensures.same (kept_before _ _ _ _ c.take_place.ensures.closes kept).0

pub returns-in-Err-take_place-clause-closed : goal.returns-in-Err-take_place-clause-closed
returns-in-Err-take_place-clause-closed g c = λ kept. subst (AreKept (λ x. HasKept (state g.N.Store x))) c.begin.ensures.same (kept_before _ _ _ _ c.take_place.ensures.closes kept).0

-- it had kept its premise to the end, and so at first
pub returns-in-Ok-clause-kept : goal.returns-in-Ok-clause-kept
returns-in-Ok-clause-kept g c = λ kept _.
    c.pass-ledger.ensures.kept (subst (λ x. HasKept (state g.N.Store x)) c.into_connection.ensures.same (kept_before _ _ _ _ c.take_place.ensures.closes kept).1)

pub returns-in-Err-take_place-clause-kept : goal.returns-in-Err-take_place-clause-kept
returns-in-Err-take_place-clause-kept g c = λ kept _.
    c.pass-ledger.ensures.kept (subst (λ x. HasKept (state g.N.Store x)) c.into_connection.ensures.same (kept_before _ _ _ _ c.take_place.ensures.closes kept).1)

-- it had kept its premise, so the renewed one has what is remembered of it
pub returns-in-Ok-clause-dawn : goal.returns-in-Ok-clause-dawn
returns-in-Ok-clause-dawn g c = λ kept fresh sound k.
    let old = c.args.serving in
    let former = c.pass-ledger.result.ledger in
    let e = c.pass-ledger.ensures in
    let dawn = c.in-Ok-Some.dawn in
    let served = subst (λ x. HasKept (state g.N.Store x)) c.into_connection.ensures.same (kept_before _ _ _ _ c.take_place.ensures.closes kept).1 in
    let lent = dawn_of _ _ dawn _ c.in-Ok-Some.is c.in-Ok-Some.field-0-is (e.next_lent served sound) in
    let has = dawn_of _ _ dawn _ c.in-Ok-Some.is c.in-Ok-Some.field-0-is (e.remembered served sound) fresh k in
    let due = dawn_of _ _ dawn _ c.in-Ok-Some.is c.in-Ok-Some.field-0-is (e.due served sound) in
    let start = out (book_in old.zone old.default (state g.N.Store old.connection).now) (g.W.Network.wire c.args.network.now) in (
      lent.0,
      lent.1,
      (
        has.sound,
        one_night old.zone former.zone old.default former.default e.lent.0 e.lent.1 start (g.W.Network.wire c.pass-ledger.new.network) dawn.note.day
            (state g.N.Store former.connection).now (state g.N.Store dawn.serving.connection) (served_well start _ _ _ c.in-Ok-Some.is (e.serves served sound)) due has,
      ),
    )

-- the switch wasn't begun, and the former ledger is served on
pub returns-then-is_err-clause-dawn : goal.returns-then-is_err-clause-dawn
returns-then-is_err-clause-dawn g c = λ _ _ sound k.
    let old = c.args.serving in
    let former = c.pass-ledger.result.ledger in
    let e = c.pass-ledger.ensures in
    let same = c.stay_with-dawn.ensures.serving in
    let start = out (book_in old.zone old.default (state g.N.Store old.connection).now) (g.W.Network.wire c.args.network.now) in
    let after = g.W.Network.wire c.pass-ledger.new.network in
    let served = subst (λ x. HasKept (state g.N.Store x.connection)) same k in
    subst (λ x. (x.zone ≡ old.zone) × (x.default ≡ old.default) × HasDawned (callers c.args.nights.now.permits g.W.Network.peers) g.R.Moments.shows c.args.nights.now.keep old.zone old.default start (state g.N.Store x.connection) after) (sym same) (
      e.lent.0,
      e.lent.1,
      stayed old.zone former.zone old.default former.default e.lent.0 e.lent.1 start after (state g.N.Store former.connection) (e.sound served sound) (served_well start _ _ _ c.in-Ok-Some.is (e.serves served sound)),
    )

-- the switch failed, and nothing was served since
pub returns-in-Err-take_place-clause-end : goal.returns-in-Err-take_place-clause-end
returns-in-Err-take_place-clause-end g c = λ kept fresh sound.
    let old = c.args.serving in
    let former = c.pass-ledger.result.ledger in
    let e = c.pass-ledger.ensures in
    let dawn = c.in-Ok-Some.dawn in
    let start = out (book_in old.zone old.default (state g.N.Store old.connection).now) (g.W.Network.wire c.args.network.now) in
    let after = g.W.Network.wire c.pass-ledger.new.network in
    let served = subst (λ x. HasKept (state g.N.Store x)) c.into_connection.ensures.same (kept_before _ _ _ _ c.take_place.ensures.closes kept).1 in
    let due = dawn_of _ _ dawn _ c.in-Ok-Some.is c.in-Ok-Some.field-0-is (e.due served sound) in
    let outcome : Result ℕ ProgramFault = Err c.in-Err-take_place.fault in
    subst (λ x. HasKept (state g.N.Store x.connection) → HasPassed (callers c.args.nights.now.permits g.W.Network.peers) g.R.Moments.shows c.args.nights.now.keep old.zone old.default start (state g.N.Store x.connection) after outcome) (sym c.into_inner.ensures) (λ k.
    let has = dawn_of _ _ dawn _ c.in-Ok-Some.is c.in-Ok-Some.field-0-is (e.remembered served sound) fresh k in
    passed_still old.zone old.default start (state g.N.Store dawn.serving.connection) after outcome (no_store _ c.in-Err-take_place.ensures.fault) (c.nothing_is_served.ensures _) (
      has.sound,
      one_night old.zone former.zone old.default former.default e.lent.0 e.lent.1 start after dawn.note.day
          (state g.N.Store former.connection).now (state g.N.Store dawn.serving.connection) (served_well start _ _ _ c.in-Ok-Some.is (e.serves served sound)) due has,
    ))

-- the serving was over, or failed
pub returns-in-Ok-None-clause-end : goal.returns-in-Ok-None-clause-end
returns-in-Ok-None-clause-end g c = λ _ _ sound k.
    let old = c.args.serving in
    let last = c.pass-ledger.result.ledger in
    let e = c.pass-ledger.ensures in
    let start = out (book_in old.zone old.default (state g.N.Store old.connection).now) (g.W.Network.wire c.args.network.now) in
    passed_at_once old.zone last.zone old.default last.default e.lent.0 e.lent.1 start
    (g.W.Network.wire c.pass-ledger.new.network) (state g.N.Store last.connection) (Ok 0) (e.sound k sound) (ends_well start _ _ _ 0 c.in-Ok-None.is (e.serves k sound))

pub returns-in-Err-clause-end : goal.returns-in-Err-clause-end
returns-in-Err-clause-end g c = λ _ _ sound k.
    let old = c.args.serving in
    let last = c.pass-ledger.result.ledger in
    let e = c.pass-ledger.ensures in
    let start = out (book_in old.zone old.default (state g.N.Store old.connection).now) (g.W.Network.wire c.args.network.now) in
    passed_at_once old.zone last.zone old.default last.default e.lent.0 e.lent.1 start
    (g.W.Network.wire c.pass-ledger.new.network) (state g.N.Store last.connection) (Err c.in-Err.fault) (e.sound k sound) (ends_so start _ _ _ c.in-Err.fault c.in-Err.is refl (e.serves k sound))
