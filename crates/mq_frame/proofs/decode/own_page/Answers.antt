use Rattle.std.proofs.Common.{rules, ◌≡◌, ◌∷◌, [], ◌++◌, ◌∙◌, refl}
use Rattle.mq_frame.specs.Shown.{shown_row}
use Rattle.mq_frame.proofs.Pages.{rows_step}
use Rattle.mq_frame.proofs.decode.own_page.Goals as goal

pub loop-done-preserved : goal.loop-done-preserved
loop-done-preserved c =
    let pushed : c.push.new.self.items ≡ c.loop-done.rows.items ++ shown_row c.in-Some.row ∷ [] = rw (c.in_ok-push.ensures.items, c.in_ok-own_row.ensures) refl in
    c.loop-done.invariant ∙ rows_step c.args.parts.count c.loop-done.done c.loop-done.rest.now c.in-Some.after.now (shown_row c.in-Some.row) c.loop-done.rows.items (search rules) (search rules)
    ∙ rw pushed refl
