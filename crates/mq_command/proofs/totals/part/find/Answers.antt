use Rattle.std.specs.Cmp.Lexicographic.{slice_cmp}
use Rattle.mq_command.proofs.Words.{UsageRow, always_returns_same, ap, nat_cmp, of_calls, rules, sym, ◌∙◌, ◌≡◌}
use Rattle.mq_command.proofs.TotalSteps.{searchable, text_same, unlisted}
use Rattle.mq_command.proofs.totals.part.find.Goals as goal

pub returns-in-Ok : goal.returns-in-Ok
returns-in-Ok c =
    let computes = always_returns_same _ (λ a r. r ≡ slice_cmp nat_cmp a.0.now.login c.args.login.now) _ (λ a r f k. search (rules, of_calls)) in
    let found = c.in-Ok.ensures.position (λ (row : UsageRow). slice_cmp nat_cmp row.login c.args.login.now) computes in (
      (c.in-Ok.place, c.in-Ok.ensures.bound, sym c.index-rows-place.is),
      text_same _ _ (ap (λ (row : UsageRow). slice_cmp nat_cmp row.login c.args.login.now) c.index-rows-place.is ∙ found c.index-rows-place.result),
    )

pub returns-in-Err : goal.returns-in-Err
returns-in-Err c =
    let computes = always_returns_same _ (λ a r. r ≡ slice_cmp nat_cmp a.0.now.login c.args.login.now) _ (λ a r f k. search (rules, of_calls)) in
    let split = c.in-Err.ensures.position (λ (row : UsageRow). slice_cmp nat_cmp row.login c.args.login.now) computes in
    unlisted c.args.rows.now c.args.login.now c.in-Err.field-0 (split (searchable c.args.rows.now c.args.login.now c.requires))
