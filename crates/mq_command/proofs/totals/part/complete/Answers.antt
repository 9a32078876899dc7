use Rattle.mq_command.proofs.Words.{All-nil, All-push, IsRow, [], ap, drop, inl, inr, length, length_push, no_login, refl, sym, take, take-append-drop, ◌++◌, ◌+◌, ◌∙◌, ◌∷◌}
use Rattle.mq_command.proofs.Fronts.{around_index}
use Rattle.mq_command.proofs.TotalSteps.{completed_all, completed_more}
use Rattle.mq_command.proofs.totals.part.complete.Goals as goal

pub loop-login-init : goal.loop-login-init
loop-login-init g c = rw c.new-rows.ensures.items (record { done = no_login; in_range = All-nil IsRow; counted = refl })

pub returns-in-Err-clause-rows : goal.returns-in-Err-clause-rows
returns-in-Err-clause-rows g c =
    let i = c.loop-login.login-index in
    let logins = c.args.logins.now in (
      take i logins,
      c.login-item.result ∷ drop (i + 1) logins,
      c.loop-login.rows.items,
      _,
      around_index logins i c.login-item.result c.loop-login-test.true (sym c.login-item.is),
      c.loop-login.invariant.done,
      inr (c.login-item.result, drop (i + 1) logins, refl, c.in-Err.ensures.row),
    )

pub returns-in-Err-push-clause-rows : goal.returns-in-Err-push-clause-rows
returns-in-Err-push-clause-rows g c =
    let i = c.loop-login.login-index in
    let logins = c.args.logins.now in (
      take (i + 1) logins,
      drop (i + 1) logins,
      c.loop-login.rows.items ++ c.in-Ok.row ∷ [],
      _,
      sym (take-append-drop (i + 1) logins),
      completed_more _ _ _ _ _ logins i c.login-item.result _ _ c.in-Ok.row c.loop-login-test.true c.login-item.is c.loop-login.invariant.done c.in-Ok.ensures.row refl,
      inl (refl, refl),
    )

pub loop-login-preserved : goal.loop-login-preserved
loop-login-preserved g c =
    let i = c.loop-login.login-index in
    let logins = c.args.logins.now in
    let is = c.in-Ok-push.ensures.items in record {
      done = completed_more _ _ _ _ _ logins i c.login-item.result _ _ c.in-Ok.row c.loop-login-test.true c.login-item.is c.loop-login.invariant.done c.in-Ok.ensures.row is;
      in_range = rw is (All-push IsRow _ _ c.loop-login.invariant.in_range c.in-Ok.ensures.in_range);
      counted = ap length is ∙ length_push _ _ ∙ ap (λ n. n + 1) c.loop-login.invariant.counted;
    }

pub returns-clause-rows : goal.returns-clause-rows
returns-clause-rows g c =
    completed_all c.args.day c.args.listed.now _ _ c.args.logins.now c.loop-login.login-index _ c.loop-login-test.false c.loop-login.invariant.done
