use Rattle.std.proofs.Common.{rules, ◌≡◌, ◌∷◌, [], ◌++◌, None, ◌∙◌}
use Rattle.mq_frame.specs.Reading.{row, counted_at}
use Rattle.mq_frame.specs.Shown.{shown_row}
use Rattle.mq_frame.proofs.Pages.{times_step, rows_step, times_none, page_none}
use Rattle.mq_frame.proofs.page.page_at.Goals as goal

pub returns-in_err-after : goal.returns-in_err-after
returns-in_err-after c =
    let i = c.loop-done.invariant in
    let none : counted_at 100 row c.args.bytes.now ≡ None = page_none c.in_ok-count.count.now c.args.bytes.now c.in_ok-count.rows.now (search rules) (i.read ∙ times_none c.in_ok-count.count.now c.loop-done.done c.loop-done.rest.now i.taken (search rules) (search rules)) in
    search rules

pub loop-done-preserved : goal.loop-done-preserved
loop-done-preserved c =
    let i = c.loop-done.invariant in record {
      taken = i.taken ++ shown_row c.in_ok-after.field-0-0 ∷ [];
      read = i.read ∙ times_step c.in_ok-count.count.now c.loop-done.done c.loop-done.rest.now c.in_ok-after.after.now (shown_row c.in_ok-after.field-0-0) i.taken (search rules) (search rules);
      shown = i.shown ∙ rows_step c.in_ok-count.count.now c.loop-done.done c.loop-done.rest.now c.in_ok-after.after.now (shown_row c.in_ok-after.field-0-0) i.taken (search rules) (search rules);
    }
