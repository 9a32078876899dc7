use Rattle.std.proofs.Common.{None, Some, [], arith, inl, inr, length-append, subst, ◌∷◌}
use Rattle.mq_store.proofs.Words.{All-push, IsRow, leaves_both, option_cases, state, was_clean}
use Rattle.mq_store.specs.Paging.{IsNextRow}
use Rattle.mq_store.proofs.Chain.{stays_both}
use Rattle.mq_store.proofs.listing.page.Goals as goal

pub returns-in_default-clause-page : goal.returns-in_default-clause-page
returns-in_default-clause-page g c clean = elim (option_cases c.in_ok-row.field-0) [
  | inr p ↦ absurd (c.in_default.not-Some p.0 p.1)
  | inl none ↦ (let mid = was_clean c.next_row.ensures.leaves clean in
      let kept = c.loop.invariant.1 mid in
      let old = (state g.S.Store c.args.tx.now.conn.now).now in
      let next = subst (λ db. IsNextRow c.args.default c.args.day c.loop.last db None) kept.0.now (rw none at (c.in_ok-row.ensures.next clean)) in
      c.reads_are_answered.ensures.ended c.args.default c.args.day c.args.after.now old c.loop.counter c.loop.rows.items c.loop.last (omega arith) kept.1 (inr next))
]

pub returns-clause-page : goal.returns-clause-page
returns-clause-page g c clean =
    let old = (state g.S.Store c.args.tx.now.conn.now).now in
    c.reads_are_answered.ensures.ended c.args.default c.args.day c.args.after.now old c.loop.counter c.loop.rows.items c.loop.last (omega arith) (c.loop.invariant.1 clean).1 (inl (omega arith))

pub loop-preserved : goal.loop-preserved
loop-preserved g c =
    let s0 = state g.S.Store c.args.tx.now.conn.now in
    let s1 = state g.S.Store c.loop.tx.conn.now in
    let s2 = state g.S.Store c.next_row.new.tx.conn.now in (
      leaves_both c.loop.invariant.0 c.next_row.ensures.leaves,
      (λ clean.
          let mid = was_clean c.next_row.ensures.leaves clean in
          let kept = c.loop.invariant.1 mid in
          let next = subst (λ db. IsNextRow c.args.default c.args.day c.loop.last db (Some c.in-Some.row)) kept.0.now (rw c.in-Some.is at (c.in_ok-row.ensures.next clean)) in (
            stays_both s0 s1 s2 kept.0 (c.in_ok-row.ensures.stays clean),
            rw (c.in_ok-push.ensures.items, c.in_ok-last-2.ensures.cases) (c.reads_are_answered.ensures.more c.args.default c.args.day c.args.after.now s0.now c.loop.counter c.loop.rows.items c.loop.last c.in-Some.row kept.1 next),
          )),
      rw c.in_ok-push.ensures.items (All-push IsRow c.loop.rows.items c.in-Some.row c.loop.invariant.2 (rw c.in-Some.is at c.in_ok-row.ensures.in_range)),
      rw c.in_ok-push.ensures.items (omega (arith, length-append c.loop.rows.items (c.in-Some.row ∷ []), c.loop.invariant.3)),
    )
