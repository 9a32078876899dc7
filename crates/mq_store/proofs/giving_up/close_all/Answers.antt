use Rattle.std.proofs.Common.{List, ap, drop, subst, sym, ◌+◌, ◌∙◌, ◌∷◌, ◌≡◌}
use Rattle.mq_store.proofs.Words.{TransactionRecord, drop_all, drop_more, leaves_both, state, was_clean}
use Rattle.mq_store.proofs.Closings.{IsLeft, one_more, all_closed}
use Rattle.mq_store.proofs.giving_up.close_all.Goals as goal

pub loop-was-preserved : goal.loop-was-preserved
loop-was-preserved g c =
    let s1 = state g.S.Store c.loop-was.tx.conn.now in
    let s2 = state g.S.Store c.close_one.new.tx.conn.now in
    let was = c.was-item.result in
    let rest = drop (c.loop-was.was-index + 1) c.args.transactions.now in (
      leaves_both c.loop-was.invariant.0 c.close_one.ensures.leaves,
      λ clean.
          let mid = was_clean c.close_one.ensures.leaves clean in
          let before = c.loop-was.invariant.1 mid in (
            c.in_ok-close_one.ensures.inside clean,
            λ t l b p leads.
                let place : drop c.loop-was.was-index c.args.transactions.now ≡ was ∷ rest = drop_more c.args.transactions.now c.loop-was.was-index was c.loop-was-test.true ∙ ap (λ (x : TransactionRecord). x ∷ rest) (sym c.was-item.is) in
                let left = subst (λ (xs : List TransactionRecord). IsLeft t b p xs s1.now) place (before.1 t l b p leads) in
                one_more t b p was rest s1.now s2.now left (c.in_ok-close_one.ensures.closed clean),
          ),
    )

pub returns-clause-closed : goal.returns-clause-closed
returns-clause-closed g c clean = λ t l b p leads.
    let now = state g.S.Store c.loop-was.tx.conn.now in
    let none = drop_all c.loop-was.was-index c.args.transactions.now c.loop-was-test.false in
    all_closed t b p now.now (subst (λ (xs : List TransactionRecord). IsLeft t b p xs now.now) none ((c.loop-was.invariant.1 clean).1 t l b p leads))
