use Rattle.std.proofs.Common.{◌≡◌, ◌∙◌, ℕ, Ok, refl, sym, subst, subst₂}
use Rattle.sqlite.specs.Held.{state}
use Rattle.mq_store.specs.Soundness.{book_in, HasKept, IsSound}
use Rattle.mq_connections.specs.Asking.{out}
use Rattle.mq_connections.specs.Gained.{callers}
use Rattle.mq_program.specs.Nights.{Begun, HasDawned, HasPassed}
use Rattle.mq_program.proofs.NightSteps.{dawn_on, end_on, passed_still}
use Rattle.mq_program.proofs.ServingEnds.{no_fault}
use Rattle.mq_program.proofs.nights.pass_nights.Goals as goal

pub loop-night-init : goal.loop-night-init
loop-night-init g c =
    let l = c.args.ledger in
    let start = out (book_in l.zone l.default (state g.N.Store l.connection).now) (g.W.Network.wire c.args.network.now) in (
      λ _. subst (λ x. HasKept (state g.N.Store x.connection) → HasKept (state g.N.Store l.connection)) (sym (c.counted-serving.ensures ∙ c.new-serving.ensures)) (λ k. k),
      λ _ _ sound. subst (λ x. HasKept (state g.N.Store x.connection) → (x.zone ≡ l.zone) × (x.default ≡ l.default) × HasDawned (callers c.args.nights.now.permits g.W.Network.peers) g.R.Moments.shows c.args.nights.now.keep l.zone l.default start (state g.N.Store x.connection) (g.W.Network.wire c.args.network.now))
          (sym (c.counted-serving.ensures ∙ c.new-serving.ensures)) (λ _. (refl, refl, (sound, Begun))),
    )

-- one more night
pub loop-night-preserved : goal.loop-night-preserved
loop-night-preserved g c =
    let l = c.args.ledger in
    let s = c.loop-night.serving in
    let old = state g.N.Store s.connection in
    let e = c.in-Ok.ensures in (
      λ kept k. c.loop-night.invariant.0 (e.closed kept) (e.kept kept k),
      λ kept fresh sound k.
          let (zone_is, default_is, (is, nights)) = c.loop-night.invariant.1 (e.closed kept) fresh sound (e.kept kept k) in
          let (z, d, has) = e.dawn kept fresh (subst₂ (λ z d. IsSound z d old) (sym zone_is) (sym default_is) is) k in (
            z ∙ zone_is,
            d ∙ default_is,
            dawn_on l.zone s.zone l.default s.default zone_is default_is (out (book_in l.zone l.default (state g.N.Store l.connection).now) (g.W.Network.wire c.args.network.now))
                old (g.W.Network.wire c.loop-night.network) (state g.N.Store c.in-Ok.dawn.serving.connection) (g.W.Network.wire c.serve_to_dawn.new.network) nights has,
          ),
    )

-- the server ends
pub returns-in-Err-clause-kept : goal.returns-in-Err-clause-kept
returns-in-Err-clause-kept g c = λ kept k.
    let e = c.in-Err.ensures in c.loop-night.invariant.0 (e.closed kept) (e.kept kept k)

pub returns-in-Err-clause-nights : goal.returns-in-Err-clause-nights
returns-in-Err-clause-nights g c = λ kept fresh sound k.
    let l = c.args.ledger in
    let s = c.loop-night.serving in
    let old = state g.N.Store s.connection in
    let e = c.in-Err.ensures in
    let (zone_is, default_is, (is, nights)) = c.loop-night.invariant.1 (e.closed kept) fresh sound (e.kept kept k) in
    end_on l.zone s.zone l.default s.default zone_is default_is (out (book_in l.zone l.default (state g.N.Store l.connection).now) (g.W.Network.wire c.args.network.now))
    old (g.W.Network.wire c.loop-night.network) (state g.N.Store c.in-Err.served.ledger.connection) (g.W.Network.wire c.serve_to_dawn.new.network) nights c.in-Err.served.outcome
    (e.end kept fresh (subst₂ (λ z d. IsSound z d old) (sym zone_is) (sym default_is) is) k)

-- after the last night of all
pub returns-clause-kept : goal.returns-clause-kept
returns-clause-kept g c = λ kept.
    subst (λ x. HasKept (state g.N.Store x.connection) → HasKept (state g.N.Store c.args.ledger.connection)) (sym c.into_inner.ensures) (c.loop-night.invariant.0 kept)

pub returns-clause-nights : goal.returns-clause-nights
returns-clause-nights g c = λ kept fresh sound.
    let l = c.args.ledger in
    let s = c.loop-night.serving in
    let start = out (book_in l.zone l.default (state g.N.Store l.connection).now) (g.W.Network.wire c.args.network.now) in
    subst (λ x. HasKept (state g.N.Store x.connection) → HasPassed {A = ℕ} (callers c.args.nights.now.permits g.W.Network.peers) g.R.Moments.shows c.args.nights.now.keep l.zone l.default start (state g.N.Store x.connection) (g.W.Network.wire c.loop-night.network) (Ok 0)) (sym c.into_inner.ensures) (λ k.
    passed_still l.zone l.default start (state g.N.Store s.connection) (g.W.Network.wire c.loop-night.network) (Ok 0) (no_fault 0) (c.nothing_is_served.ensures _) (c.loop-night.invariant.1 kept fresh sound k).2)
