use Rattle.std.proofs.Common.{List, ap, drop, subst, sym, ◌+◌, ◌∙◌, ◌∷◌, ◌≡◌}
use Rattle.mq_store.proofs.Words.{Row, drop_all, drop_more, leaves_both, state, was_clean}
use Rattle.mq_store.specs.GivingUp.{place_of}
use Rattle.mq_store.proofs.Clearings.{IsToClear, one_cleared, all_at_places}
use Rattle.mq_store.proofs.giving_up.clear_all.Goals as goal

pub loop-place-preserved : goal.loop-place-preserved
loop-place-preserved g c =
    let s1 = state g.S.Store c.loop-place.tx.conn.now in
    let s2 = state g.S.Store c.clear_reply.new.tx.conn.now in
    let place = c.place-item.result in
    let rest = drop (c.loop-place.place-index + 1) c.args.places.now in (
      leaves_both c.loop-place.invariant.0 c.clear_reply.ensures.leaves,
      λ clean.
          let mid = was_clean c.clear_reply.ensures.leaves clean in
          let before = c.loop-place.invariant.1 mid in (
            c.in_ok-clear_reply.ensures.inside clean,
            λ t l.
                let here : drop c.loop-place.place-index c.args.places.now ≡ place ∷ rest = drop_more c.args.places.now c.loop-place.place-index place c.loop-place-test.true ∙ ap (λ (x : Row). x ∷ rest) (sym c.place-item.is) in
                let left = subst (λ (xs : List Row). IsToClear t c.args.places.now xs s1.now) here (before.1 t l) in
                one_cleared t c.args.places.now rest place c.in_ok-n.n s1 s2 (ap place_of c.in_ok-n.ensures.0) left (c.in_ok-clear_reply.ensures.cleared clean),
          ),
    )

pub returns-clause-cleared : goal.returns-clause-cleared
returns-clause-cleared g c clean = λ t l.
    let now = state g.S.Store c.loop-place.tx.conn.now in
    let none = drop_all c.loop-place.place-index c.args.places.now c.loop-place-test.false in
    all_at_places t c.args.places.now now.now (subst (λ (xs : List Row). IsToClear t c.args.places.now xs now.now) none ((c.loop-place.invariant.1 clean).1 t l))
