use Rattle.mq_command.proofs.Words.{ap, arith, length, rules, ◌∙◌}
use Rattle.mq_command.proofs.PageSteps.{held_more, held_none, not_collected}
use Rattle.mq_command.proofs.report.all_rows.Goals as goal

pub loop-page-init : goal.loop-page-init
loop-page-init g c = rw c.new-all.ensures.items (held_none _ _ _ (c.new-after.ensures ∙ c.new.ensures.items))

pub returns-in-Err : goal.returns-in-Err
returns-in-Err g c = not_collected c.args.day _ _ _ c.loop-page._page _ _ c.in-Err.fault c.loop-page.invariant c.loop-page-test.true c.in-Err.ensures.page

pub returns-then-page-lt-PAGE : goal.returns-then-page-lt-PAGE
returns-then-page-lt-PAGE g c = (
  c.loop-page._page,
  _,
  _,
  _,
  c.loop-page-test.true,
  c.loop-page.invariant.pages,
  (_, c.in-Ok.ensures.page, omega (arith, ap length c.as_slice-page.ensures, c.if-page-lt-PAGE.true), c.in_ok-append.ensures),
)

pub loop-page-preserved : goal.loop-page-preserved
loop-page-preserved g c =
    rw c.in_ok-append-2.ensures (held_more c.args.day _ _ _ c.loop-page._page _ _ _ _ _ _ c.loop-page.invariant c.in-Ok.ensures.page c.in-Ok.ensures.in_range c.as_slice-page.ensures
    (omega (arith, c.if-page-lt-PAGE.false)) c.index-page-page.is (search rules))
